use Rattle.std.proofs.Common.{◌∙◌, sym, ap}
use Rattle.rst_tree.specs.Forest.{bare, words}
use Rattle.rst_inline.proofs.TextLemmas.{some-children, no-children}
use Rattle.rst_inline.proofs.elements.text_nodes.Goals as goal

pub returns-then-is_empty : goal.returns-then-is_empty
returns-then-is_empty c = c.new.ensures ∙ no-children c.args.display_text.now (sym c.is_empty.ensures ∙ c.if-is_empty.true)

pub returns : goal.returns
returns c =
    c.in_ok-nodes.ensures ∙ ap (λ t. words t bare) c.in_ok-text.ensures
    ∙ some-children c.args.display_text.now c.utf8.display_text (sym c.is_empty.ensures ∙ c.if-is_empty.false)
