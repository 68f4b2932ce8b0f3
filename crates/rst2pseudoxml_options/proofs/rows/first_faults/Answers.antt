use Rattle.std.proofs.Common.{refl}
use Rattle.rst2pseudoxml_options.proofs.Computing.{rst2pseudoxml_options}
use Rattle.rst2pseudoxml_options.proofs.rows.first_faults.Goals as goal

pub returns : goal.returns
unfolding rst2pseudoxml_options
returns c = record {
  arguments_before_level = refl;
  arguments_before_two_levels = refl;
  level_before_tab = refl;
  level_before_limit = refl;
  level_before_two_levels = refl;
  tab_before_limit = refl;
  tab_before_two_levels = refl;
  limit_before_two_levels = refl;
  all = refl;
}
