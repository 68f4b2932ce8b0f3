use Rattle.std.proofs.Common.{refl}
use Rattle.rst_text.specs.ViewBlock.{block_of, placement_block}
use Rattle.rst_text.proofs.view.View.placement.Goals as goal

pub returns-clause-inside : goal.returns-clause-inside
returns-clause-inside c = let v = c.args.self.now in (v.ordered, v.fits, v.may_cut)

pub returns-clause-block : goal.returns-clause-block
unfolding block_of placement_block
returns-clause-block c = refl
