use Rattle.std.proofs.Common.{refl}
use Rattle.rst2pseudoxml_run.proofs.Computing.{rst2pseudoxml_run}
use Rattle.rst2pseudoxml_run.proofs.rows.documents.refused_titles.Goals as goal

pub returns : goal.returns
unfolding rst2pseudoxml_run
returns c = record {
  in_an_item = refl;
  in_an_item_without_a_halt = refl;
  inconsistent_level = refl;
}
