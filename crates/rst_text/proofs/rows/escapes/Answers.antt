use Rattle.std.proofs.Common.{refl}
use Rattle.rst_text.proofs.Computing.{rst_text}
use Rattle.rst_text.proofs.rows.escapes.Goals as goal

pub returns : goal.returns
unfolding rst_text
returns c = record {
  white = refl;
  character = refl;
  backslash = refl;
  last = refl;
  after_one = refl;
  after_two = refl;
  after_three = refl;
  counted_from = refl;
}
