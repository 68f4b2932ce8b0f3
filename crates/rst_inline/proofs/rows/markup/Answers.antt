use Rattle.std.proofs.Common.{refl}
use Rattle.rst_inline.proofs.Computing.{rst_inline}
use Rattle.rst_inline.proofs.rows.markup.Goals as goal

pub returns : goal.returns
unfolding rst_inline
returns c = record {
  kinds = refl;
  escapes = refl;
  literal_escapes = refl;
  nothing_between = refl;
  last_backslash = refl;
  backslash_alone = refl;
  two_lines = refl;
  target = refl;
  line = refl;
}
