use Rattle.std.proofs.Common.{refl}
use Rattle.rst_markup_blocks.proofs.Computing.{rst_markup_blocks}
use Rattle.rst_markup_blocks.proofs.rows.bodies.Goals as goal

pub returns : goal.returns
unfolding rst_markup_blocks
returns c = record {
  bullet = refl;
  bullet_spaces = refl;
  bullet_alone = refl;
  enumerator = refl;
  enumerator_alone = refl;
  field = refl;
  option = refl;
  doctest = refl;
  line = refl;
  lines = refl;
  quote = refl;
  definition = refl;
}
