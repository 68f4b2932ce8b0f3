use Rattle.std.proofs.Common.{refl}
use Rattle.rst2pseudoxml_run.proofs.Computing.{rst2pseudoxml_run}
use Rattle.rst2pseudoxml_run.proofs.rows.wider.roles_that_begin_lines.Goals as goal

pub returns : goal.returns
unfolding rst2pseudoxml_run
returns c = record {
  role = refl;
  escaped_colon = refl;
}
