use Rattle.std.proofs.Common.{refl}
use Rattle.rst2pseudoxml_options.proofs.Computing.{rst2pseudoxml_options}
use Rattle.rst2pseudoxml_options.proofs.rows.forms.Goals as goal

pub returns : goal.returns
unfolding rst2pseudoxml_options
returns c = record {
  long = refl;
  short = refl;
  short_joined = refl;
  short_with_equals = refl;
  v = refl;
  q = refl;
  combined = refl;
  combined_and_joined = refl;
  value_alone = refl;
  value_after_equals = refl;
  value_joined = refl;
  value_hyphen = refl;
  part_of_a_name = refl;
  upper_case_name = refl;
}
