use Rattle.std.proofs.Common.{refl}
use Rattle.rst_text.specs.ViewBlock.{block_of, placement_block}
use Rattle.rst_text.proofs.view.View.at.Goals as goal

pub invariant_of-result : goal.invariant_of-result
invariant_of-result c = record { ordered = c.requires.0; fits = c.requires.1; few = c.args.self.now.few; may_cut = c.requires.2; of_lines = c.args.self.now.of_lines; of_texts = c.args.self.now.of_texts }

pub returns-clause-block : goal.returns-clause-block
unfolding block_of placement_block
returns-clause-block c = refl
