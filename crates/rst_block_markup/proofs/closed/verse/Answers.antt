use Rattle.std.proofs.Common.{◌-◌, List, [], ◌∷◌, ◌++◌, Ok, false, rules, sym, ap, ◌∙◌}
use Rattle.rst_text.specs.ViewBlock.{block_of}
use Rattle.rst_tree.specs.declared.node.Node.{Node}
use Rattle.rst_markup_directives.specs.Options.{choices_in}
use Rattle.rst_block_nodes.specs.LineBlocks.{indented}
use Rattle.rst_block_nodes.specs.Options.{with_options}
use Rattle.rst_block_state.specs.Directives.{content_lines}
use Rattle.rst_block_markup.specs.MarkupSteps.{read_of_directive}
use Rattle.rst_block_markup.proofs.ClosedReads.{verse_made, verse_refused}
use Rattle.rst_block_markup.proofs.VerseLemmas.{content_is}
use Rattle.rst_block_markup.proofs.closed.verse.Goals as goal

pub returns-clause-read : goal.returns-clause-read
returns-clause-read c =
    let B = block_of c.args.view.now in
    let f = c.args.found.now in
    let made = c.in_ok-made.made in
    let lines = c.add_lines-2.new.lines.items in
    let same = content_is B f.content c.new-lines.result.items c.add_lines.new.lines.items lines (block_of c.inside.result) (block_of c.inside-2.result) c.new-lines.ensures.items
    c.in_ok-add_lines.ensures.verse c.in_ok-add_lines-2.ensures.verse c.inside.ensures.block c.inside-2.ensures.block in
    let element = c.in_ok-element.ensures ∙ ap (λ ss. with_options false (choices_in ss) made.element) c.as_slice.ensures.value in
    let nodes = c.in_ok-append.ensures ∙ ap (λ ns. ns ++ made.notes.items) (c.in_ok-nodes.ensures ∙ ap (λ (n : Node). n ∷ []) element) in
    ap (λ (ns : List Node). Ok (ns, c.line_block.new.numbers)) nodes
    ∙ sym (verse_made (251 - c.args.depth) c.args.pass.now.numbers c.line_block.new.numbers (indented lines) (read_of_directive f) (content_lines B f.content) made.element made.notes.items same c.in_ok-made.ensures)

pub returns-in_err-made-clause-read : goal.returns-in_err-made-clause-read
returns-in_err-made-clause-read c =
    let B = block_of c.args.view.now in
    let f = c.args.found.now in
    let lines = c.add_lines-2.new.lines.items in
    let same = content_is B f.content c.new-lines.result.items c.add_lines.new.lines.items lines (block_of c.inside.result) (block_of c.inside-2.result) c.new-lines.ensures.items
    c.in_ok-add_lines.ensures.verse c.in_ok-add_lines-2.ensures.verse c.inside.ensures.block c.inside-2.ensures.block in
    verse_refused (251 - c.args.depth) c.args.pass.now.numbers c.line_block.new.numbers (indented lines) _ (read_of_directive f) (content_lines B f.content) c.in_err-made.field-0.0 _ same c.in_err-made.ensures (search rules)
