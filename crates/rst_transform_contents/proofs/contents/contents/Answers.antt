use Rattle.std.proofs.Common.{◌≡◌, ◌∙◌, true, replicate, None, ap, refl, rules}
use Rattle.rst_transform_contents.specs.declared.entries.Tables.{Tables}
use Rattle.rst_transform_contents.specs.Contents.{holds_table, led_titles}
use Rattle.rst_transform_contents.proofs.WholeDocuments.{with_some}
use Rattle.rst_transform_contents.proofs.contents.contents.Goals as goal

pub returns : goal.returns
returns c =
    let before : Tables = record { alloc = c.args.context.now.alloc; ids = c.replace.result; leads = c.in_ok-no_leads.field-0 } in
    let some : holds_table c.args.document.children ≡ true = search rules in
    let leads : before.leads.items ≡ replicate c.args.context.now.serials None = search rules in
    with_some c.args.document _ c.args.context.now _ before c.placed.new.self c.in_ok-sections.sections.items c.in_ok-nodes.nodes.items some c.in_ok-sections.ensures c.replace.ensures.value leads
    (rw (c.deref.ensures.value, c.deref-2.ensures.value) at c.in_ok-nodes.ensures) refl
    (ap (λ f. record c.args.document { children = f }) (c.in_ok-rewrite_in.ensures.nodes ∙ ap (λ f. led_titles c.placed.new.self.leads.items f) c.of.ensures))
