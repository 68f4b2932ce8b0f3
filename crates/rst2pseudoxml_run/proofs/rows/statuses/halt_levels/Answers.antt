use Rattle.std.proofs.Common.{refl}
use Rattle.rst2pseudoxml_run.proofs.Computing.{rst2pseudoxml_run}
use Rattle.rst2pseudoxml_run.proofs.rows.statuses.halt_levels.Goals as goal

pub returns : goal.returns
unfolding rst2pseudoxml_run
returns c = record {
  halted = refl;
  halted_below_the_report_level = refl;
}
