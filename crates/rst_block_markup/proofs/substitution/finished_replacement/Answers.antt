use Rattle.std.proofs.Common.{◌∙◌, sym, ap, codes}
use Rattle.std.specs.Prelude.{string_bytes}
use Rattle.rst_block_state.specs.Directives.{about, first_paragraph}
use Rattle.rst_block_markup.proofs.SubstitutionReads.{replacement_accepted, replacement_refused}
use Rattle.rst_block_markup.proofs.substitution.finished_replacement.Goals as goal

pub returns-then-may_replace : goal.returns-then-may_replace
returns-then-may_replace c =
    c.in_ok-node.ensures
    ∙ replacement_accepted (string_bytes c.args.open.name) (string_bytes c.args.open.source) c.as_str.result.now c.args.open.line c.first_paragraph-children.result c.as_slice.result.now (first_paragraph c.args.nodes)
    c.into_list.result.items c.in_ok-definition.definition c.as_slice.ensures c.first_paragraph-children.ensures (sym c.may_replace.ensures ∙ c.if-may_replace.true) c.into_list.ensures.nodes c.as_str.ensures.value c.in_ok-definition.ensures

pub returns : goal.returns
returns c =
    c.in_ok-error.ensures
    ∙ replacement_refused (string_bytes c.args.open.name) (string_bytes c.args.open.source) c.as_str-3.result.now c.as_str-4.result.now c.args.open.line c.first_paragraph-children.result c.as_slice.result.now
    (first_paragraph c.args.nodes) c.as_slice.ensures c.first_paragraph-children.ensures (sym c.may_replace.ensures ∙ c.if-may_replace.false)
    (c.as_str-3.ensures.value ∙ c.in_ok-text.ensures ∙ ap (λ n. about n (codes " contains an illegal element.")) c.as_str-2.ensures.value) c.as_str-4.ensures.value
