use Rattle.std.proofs.Common.{refl}
use Rattle.rst_text.proofs.Computing.{rst_text}
use Rattle.rst_text.proofs.rows.ids.Goals as goal

pub returns : goal.returns
unfolding rst_text
returns c = record {
  joined = refl;
  nothing = refl;
  hyphens = refl;
  taken_apart = refl;
  not_taken_apart = refl;
}
