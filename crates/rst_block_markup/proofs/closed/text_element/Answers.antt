use Rattle.std.proofs.Common.{List, [], ◌∷◌, ◌++◌, Ok, sym, ap, ◌∙◌}
use Rattle.rst_tree.specs.declared.node.Node.{Node}
use Rattle.rst_markup_directives.specs.Options.{choices_in}
use Rattle.rst_block_nodes.specs.Options.{with_options}
use Rattle.rst_block_state.specs.Numbered.{then_read, just}
use Rattle.rst_block_markup.proofs.closed.text_element.Goals as goal

pub returns-clause-read : goal.returns-clause-read
returns-clause-read c =
    let f = c.args.found.now in
    let literal = c.args.literal in
    let made = c.in_ok-made.made in
    let element = c.in_ok-element.ensures ∙ ap (λ ss. with_options literal (choices_in ss) made.element) c.as_slice.ensures.value in
    let nodes = c.in_ok-append.ensures ∙ ap (λ ns. ns ++ made.notes.items) (c.in_ok-nodes.ensures ∙ ap (λ (n : Node). n ∷ []) element) in
    ap (then_read (λ (made : Node × List Node). just (with_options literal (choices_in f.options.items) made.0 ∷ made.1))) c.in_ok-made.ensures.read
    ∙ ap (λ (ns : List Node). Ok (ns, c.with_text.new.numbers)) (sym nodes)
