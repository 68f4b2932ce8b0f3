use Rattle.std.proofs.Common.{refl}
use Rattle.rst2pseudoxml_run.proofs.Computing.{rst2pseudoxml_run}
use Rattle.rst2pseudoxml_run.proofs.rows.substitutions.substitutions.Goals as goal

pub returns : goal.returns
unfolding rst2pseudoxml_run
returns c = record {
  replaced = refl;
  by_its_name = refl;
  nested = refl;
  definition_in_a_quote = refl;
  circular_and_undefined = refl;
}
