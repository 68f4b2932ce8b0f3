use Rattle.std.proofs.Common.{refl}
use Rattle.rst2pseudoxml_run.proofs.Computing.{rst2pseudoxml_run}
use Rattle.rst2pseudoxml_run.proofs.rows.documents.short_underlines.Goals as goal

pub returns : goal.returns
unfolding rst2pseudoxml_run
returns c = record {
  too_short = refl;
  taken_as_text = refl;
  taken_as_text_with_all_messages = refl;
}
