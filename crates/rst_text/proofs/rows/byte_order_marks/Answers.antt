use Rattle.std.proofs.Common.{refl}
use Rattle.rst_text.proofs.Computing.{rst_text}
use Rattle.rst_text.proofs.rows.byte_order_marks.Goals as goal

pub returns : goal.returns
unfolding rst_text
returns c = record {
  one = refl;
  inside = refl;
}
