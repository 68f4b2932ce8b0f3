use Rattle.std.proofs.Common.{refl}
use Rattle.rst_markup_blocks.proofs.Computing.{rst_markup_blocks}
use Rattle.rst_markup_blocks.proofs.rows.attributions.Goals as goal

pub returns : goal.returns
unfolding rst_markup_blocks
returns c = record {
  one_line = refl;
  three_lines = refl;
  not_indented = refl;
  second_mark = refl;
  uneven = refl;
}
