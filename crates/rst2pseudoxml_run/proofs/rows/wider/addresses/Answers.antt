use Rattle.std.proofs.Common.{refl}
use Rattle.rst2pseudoxml_run.proofs.Computing.{rst2pseudoxml_run}
use Rattle.rst2pseudoxml_run.proofs.rows.wider.addresses.Goals as goal

pub returns : goal.returns
unfolding rst2pseudoxml_run
returns c = record {
  in_a_text = refl;
  in_a_phrase = refl;
  as_a_target = refl;
}
