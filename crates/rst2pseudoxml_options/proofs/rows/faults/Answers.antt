use Rattle.std.proofs.Common.{refl}
use Rattle.rst2pseudoxml_options.proofs.Computing.{rst2pseudoxml_options}
use Rattle.rst2pseudoxml_options.proofs.rows.faults.Goals as goal

pub returns : goal.returns
unfolding rst2pseudoxml_options
returns c = record {
  unknown = refl;
  unknown_letter = refl;
  help = refl;
  help_letter = refl;
  version = refl;
  flag_twice = refl;
  flag_in_two_forms = refl;
  option_twice = refl;
  option_in_two_forms = refl;
  no_value = refl;
  no_value_before_an_option = refl;
  no_value_of_a_letter = refl;
  flag_with_a_value = refl;
  flag_with_an_empty_value = refl;
  report_level = refl;
  halt_level = refl;
  empty_level = refl;
  exit_status_level = refl;
  report_and_verbose = refl;
  report_and_quiet = refl;
  verbose_and_quiet = refl;
  halt_and_strict = refl;
}
