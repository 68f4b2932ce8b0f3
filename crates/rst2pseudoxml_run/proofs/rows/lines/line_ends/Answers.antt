use Rattle.std.proofs.Common.{refl}
use Rattle.rst2pseudoxml_run.proofs.Computing.{rst2pseudoxml_run}
use Rattle.rst2pseudoxml_run.proofs.rows.lines.line_ends.Goals as goal

pub returns : goal.returns
unfolding rst2pseudoxml_run
returns c = record {
  carriage_returns = refl;
  past_ascii = refl;
  separators = refl;
  no_line_end = refl;
}
