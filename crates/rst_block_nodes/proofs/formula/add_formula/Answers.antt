use Rattle.std.proofs.Common.{rules, ◌≡◌, ◌++◌, ◌∷◌, sym, ap, ◌∙◌}
use Rattle.std.specs.Str.{chars}
use Rattle.std.proofs.lemmas.Bool.{eqb-true}
use Rattle.std.proofs.lemmas.List.{nil_from_length}
use Rattle.std.proofs.lemmas.Str.{encodes-chars}
use Rattle.rst_markup_directives.specs.Options.{choices_in}
use Rattle.rst_block_nodes.specs.Elements.{element_of, preserving, text_nodes}
use Rattle.rst_block_nodes.specs.Formulas.{formula, formulas_from, holder_after}
use Rattle.rst_block_nodes.specs.Options.{with_choices}
use Rattle.rst_block_nodes.proofs.FormulaLemmas.{formula_added, no_text}
use Rattle.rst_block_nodes.proofs.formula.add_formula.Goals as goal

pub returns-then-is_empty : goal.returns-then-is_empty
unfolding chars
returns-then-is_empty c = λ parts.
    let ns = c.args.nodes.now.items in
    ap (λ t. ns ++ formulas_from (holder_after ns) c.args.element (choices_in c.args.options.now) c.args.line (chars t ∷ parts)) (sym (nil_from_length c.args.text.now (eqb-true _ 0 (sym c.if-is_empty.ensures))))

pub returns : goal.returns
returns c = λ parts.
    let ns = c.args.nodes.now.items in
    let t = c.args.text.now in
    let element = c.args.element in
    let choices = choices_in c.args.options.now in
    let made : c.element_of.result ≡ element_of element (with_choices (holder_after ns) choices preserving) (text_nodes t) c.args.line = search rules in
    let node : c.element_of.result ≡ formula (holder_after ns) element choices c.args.line (chars t) =
    made ∙ ap (λ x. element_of element (with_choices (holder_after ns) choices preserving) (text_nodes x) c.args.line) (sym (encodes-chars t c.utf8.text)) in
    ap (λ xs. xs ++ formulas_from (holder_after xs) element choices c.args.line parts) c.in_ok-push.ensures.items
    ∙ formula_added element choices c.args.line ns (chars t) c.element_of.result (no_text t c.utf8.text (sym c.is_empty.ensures ∙ c.if-is_empty.false)) node parts
