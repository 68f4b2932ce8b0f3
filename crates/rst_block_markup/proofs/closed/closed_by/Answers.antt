use Rattle.std.proofs.Common.{List, false, refl, sym, ap, subst, ◌∙◌}
use Rattle.std.specs.Str.{chars}
use Rattle.rst_text.specs.Block.{Block}
use Rattle.rst_text.specs.ViewBlock.{block_of}
use Rattle.rst_tree.specs.declared.node.Node.{Node}
use Rattle.rst_markup_directives.specs.Argument.{given_in}
use Rattle.rst_block_state.specs.Directives.{closed_by}
use Rattle.rst_block_state.specs.machine.OpenBlocks.{Gives}
use Rattle.rst_block_state.specs.Numbered.{Numbered}
use Rattle.rst_block_state.specs.Texts.{joined}
use Rattle.rst_block_markup.specs.MarkupSteps.{HoldsNodes, read_of_directive}
use Rattle.rst_block_markup.proofs.DirectiveReads.{text_is}
use Rattle.rst_block_markup.proofs.closed.closed_by.Goals as goal

pub returns-in_ok-text-in-Title-clause-read : goal.returns-in_ok-text-in-Title-clause-read
returns-in_ok-text-in-Title-clause-read c =
    let B : Block = block_of c.args.view.now in
    let read = read_of_directive c.args.found.now in
    subst (λ (nodes : Numbered (List Node)). Gives (HoldsNodes nodes c.args.pass.now.numbers c.text_element.new.pass.numbers) c.text_element.result)
    (text_is false read c.parts.ensures.value refl (ap chars c.as_str.ensures.value ∙ c.in_ok-text-in-Title.ensures.text ∙ ap joined c.inside.ensures.block)
    ∙ ap (λ a. closed_by (given_in a) B c.args.line read) (sym c.in-Title.is))
    c.text_element.ensures.read
