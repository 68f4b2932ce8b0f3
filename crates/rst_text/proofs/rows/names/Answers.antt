use Rattle.std.proofs.Common.{refl}
use Rattle.rst_text.proofs.Computing.{rst_text}
use Rattle.rst_text.proofs.rows.names.Goals as goal

pub returns : goal.returns
unfolding rst_text
returns c = record {
  white = refl;
  folded = refl;
  spaces_past_ascii = refl;
  not_white = refl;
  each_to_one = refl;
}
