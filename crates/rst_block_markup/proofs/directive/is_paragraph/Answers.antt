use Rattle.std.proofs.Common.{false, rules}
use Rattle.rst_text.specs.ViewBlock.{block_of}
use Rattle.rst_block_state.specs.Paragraphs.{is_single_paragraph}
use Rattle.rst_block_state.specs.Texts.{lines_in}
use Rattle.rst_block_markup.proofs.DirectiveFlags.{flag_free}
use Rattle.rst_block_markup.proofs.directive.is_paragraph.Goals as goal

pub returns-clause-flag : goal.returns-clause-flag
returns-clause-flag c = λ B at place.
    flag_free c.args.kind B at c.args.block place false (is_single_paragraph (lines_in (block_of c.args.view.now) c.args.block)) (search rules)
