use Rattle.std.proofs.Common.{refl}
use Rattle.rst_block_state.proofs.Computing.{rst_block_state}
use Rattle.rst_block_state.proofs.rows.lists.bullets.Goals as goal

pub returns : goal.returns
unfolding rst_block_state
returns c = record {
  marks = refl;
  items = refl;
  other_bullet_directly = refl;
  without_a_blank_line = refl;
  nested = refl;
  nested_without_a_blank_line = refl;
  item_in_an_item = refl;
  empty_item = refl;
  wide_marker = refl;
  shallow_line = refl;
  no_mark = refl;
  comment_between = refl;
}
