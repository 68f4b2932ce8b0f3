use Rattle.std.proofs.Common.{refl}
use Rattle.rst_markup_blocks.proofs.Computing.{rst_markup_blocks}
use Rattle.rst_markup_blocks.proofs.rows.tables.Goals as goal

pub returns : goal.returns
unfolding rst_markup_blocks
returns c = record {
  grid = refl;
  grid_before_text = refl;
  grid_without_bottom = refl;
  simple = refl;
  simple_at_the_end = refl;
  simple_with_head = refl;
  simple_other_length = refl;
  simple_other_bottom = refl;
  simple_without_bottom = refl;
  simple_without_border = refl;
}
