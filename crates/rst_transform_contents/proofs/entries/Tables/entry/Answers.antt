use Rattle.std.proofs.Common.{◌≡◌, ◌∙◌, ◌∷◌, ap, ap₂, rules, subst}
use Rattle.std.specs.Prelude.{codes}
use Rattle.rst_tree.specs.Attributes.{as_number, value_of}
use Rattle.rst_tree.specs.declared.key.Key.TheVariants.{Serial}
use Rattle.rst_transform_names.specs.Ids.{numbered_id, AreTaken}
use Rattle.rst_transform_contents.specs.Entries.{back_of, entry_node, led}
use Rattle.rst_transform_contents.proofs.entries.Tables.entry.Goals as goal

pub returns : goal.returns
returns c left h =
    let given = c.in_ok-id.ensures left.ids h.ids in
    let node : c.element.result ≡ entry_node c.in_ok-id.id c.args.attrs.now c.args.title.now = search rules in
    let back : c.lead_back.new.leads.items ≡ led (back_of c.args.backlinks.now c.in_ok-id.id) (as_number (value_of Serial c.args.attrs.now)) c.args.self.now.leads.items = search rules in
    let id : c.in_ok-id.id ≡ numbered_id left.ids (codes "toc-entry") = given.0 in (
      node ∙ ap (λ i. entry_node i c.args.attrs.now c.args.title.now) id,
      record {
        ids = subst (λ i. AreTaken c.give_numbered.new.self (i ∷ left.ids)) id given.1;
        leads = back ∙ ap₂ (λ i ls. led (back_of c.args.backlinks.now i) (as_number (value_of Serial c.args.attrs.now)) ls) id h.leads;
      },
    )
