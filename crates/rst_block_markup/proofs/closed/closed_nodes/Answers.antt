use Rattle.std.proofs.Common.{◌-◌, List, Ok, true, drop, sym, ap, subst, ◌∙◌}
use Rattle.std.specs.Str.{chars}
use Rattle.rst_text.specs.Block.{Block, first_number}
use Rattle.rst_text.specs.ViewBlock.{block_of}
use Rattle.rst_tree.specs.declared.node.Node.{Node}
use Rattle.rst_markup_directives.specs.Options.{choices_in}
use Rattle.rst_block_nodes.specs.Formulas.{formulas}
use Rattle.rst_block_state.specs.Directives.{closed_with, content_lines}
use Rattle.rst_block_state.specs.machine.Meanings.{Keeps}
use Rattle.rst_block_state.specs.Numbered.{Numbered}
use Rattle.rst_block_state.proofs.Spelling.{chars_spelled}
use Rattle.rst_block_markup.specs.MarkupSteps.{marked_text, read_of_directive}
use Rattle.rst_block_markup.proofs.ClosedReads.{held_keeps}
use Rattle.rst_block_markup.proofs.DirectiveReads.{text_is}
use Rattle.rst_block_markup.proofs.closed.closed_nodes.Goals as goal

pub returns-in_ok-text-in-Marked-clause-read : goal.returns-in_ok-text-in-Marked-clause-read
returns-in_ok-text-in-Marked-clause-read c =
    let B : Block = block_of c.args.view.now in
    let read = read_of_directive c.args.found.now in
    let line = first_number (drop c.args.at B) in
    subst (λ (nodes : Numbered (List Node)). Keeps c.text_element.result (λ made. Ok (made.items, c.text_element.new.pass.numbers)) (nodes c.args.pass.now.numbers))
    (text_is true read c.parts.ensures.value c.number_at-line.ensures (ap chars c.as_str.ensures.value ∙ chars_spelled c.in_ok-text-in-Marked.text (content_lines B read.content) c.in_ok-text-in-Marked.ensures.bytes)
    ∙ ap (λ k. closed_with k (251 - c.args.depth) B line read) (sym c.in-Marked.is))
    (held_keeps (marked_text true read c.parts.result.now c.number_at-line.result (chars c.as_str.result.now)) c.args.pass.now.numbers c.text_element.new.pass.numbers c.text_element.result c.text_element.ensures.read)

pub returns-in_ok-formulas-in-Formulas-clause-read : goal.returns-in_ok-formulas-in-Formulas-clause-read
returns-in_ok-formulas-in-Formulas-clause-read c =
    let B : Block = block_of c.args.view.now in
    let f = c.args.found.now in
    let read = read_of_directive f in
    let line = first_number (drop c.args.at B) in
    let t = chars c.as_str-in-Formulas.result.now in
    let nodes = c.in_ok-formulas-in-Formulas.ensures ∙ ap (λ ss. formulas f.kind.element (choices_in ss) c.number_at-line.result t) c.as_slice-options.ensures.value
    ∙ ap (λ k. formulas f.kind.element read.options k t) c.number_at-line.ensures
    ∙ ap (formulas f.kind.element read.options line) (ap chars c.as_str-in-Formulas.ensures.value ∙ chars_spelled c.in_ok-text-in-Formulas.text (content_lines B read.content) c.in_ok-text-in-Formulas.ensures.bytes) in
    ap (λ (ns : List Node). Ok (ns, c.args.pass.now.numbers)) nodes ∙ ap (λ k. closed_with k (251 - c.args.depth) B line read c.args.pass.now.numbers) (sym c.in-Formulas.is)
