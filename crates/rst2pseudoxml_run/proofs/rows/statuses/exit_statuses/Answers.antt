use Rattle.std.proofs.Common.{refl}
use Rattle.rst2pseudoxml_run.proofs.Computing.{rst2pseudoxml_run}
use Rattle.rst2pseudoxml_run.proofs.rows.statuses.exit_statuses.Goals as goal

pub returns : goal.returns
unfolding rst2pseudoxml_run
returns c = record {
  warning = refl;
  level_too_low = refl;
  below_the_report_level = refl;
  halted = refl;
  highest_before_the_last = refl;
}
