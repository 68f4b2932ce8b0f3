use Rattle.std.proofs.Common.{refl}
use Rattle.rst_markup_blocks.proofs.Computing.{rst_markup_blocks}
use Rattle.rst_markup_blocks.proofs.rows.comments.Goals as goal

pub returns : goal.returns
unfolding rst_markup_blocks
returns c = record {
  plain = refl;
  below = refl;
  empty = refl;
  empty_at_the_end = refl;
  before_text = refl;
  malformed_targets = refl;
  malformed_substitution = refl;
  tight_substitution = refl;
  empty_comment_size = refl;
  comment_size = refl;
  target_size = refl;
  underscores_size = refl;
}
