use Rattle.std.proofs.Common.{refl}
use Rattle.rst_markup_blocks.proofs.Computing.{rst_markup_blocks}
use Rattle.rst_markup_blocks.proofs.rows.constructs.Goals as goal

pub returns : goal.returns
unfolding rst_markup_blocks
returns c = record {
  document = refl;
}
