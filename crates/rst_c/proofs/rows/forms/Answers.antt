use Rattle.std.proofs.Common.{refl}
use Rattle.rst_c.proofs.Computing.{rst_c}
use Rattle.rst_c.proofs.rows.forms.Goals as goal

pub returns : goal.returns
unfolding rst_c
returns c = record {
  json = refl;
  json_of_a_halted_run = refl;
  json_with_an_exit_status = refl;
  records = refl;
}
