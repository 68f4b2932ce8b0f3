use Rattle.std.proofs.Common.{refl}
use Rattle.rst2pseudoxml_run.proofs.Computing.{rst2pseudoxml_run}
use Rattle.rst2pseudoxml_run.proofs.rows.footnotes.numbered_footnotes.Goals as goal

pub returns : goal.returns
unfolding rst2pseudoxml_run
returns c = record {
  number_taken = refl;
  found_by_their_numbers = refl;
  named = refl;
  numbered = refl;
  too_many = refl;
}
