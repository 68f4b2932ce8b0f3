use Rattle.std.proofs.Common.{refl}
use Rattle.rst2pseudoxml_options.proofs.Computing.{rst2pseudoxml_options}
use Rattle.rst2pseudoxml_options.proofs.rows.numbers.Goals as goal

pub returns : goal.returns
unfolding rst2pseudoxml_options
returns c = record {
  least_tab = refl;
  most_tab = refl;
  least_limit = refl;
  most_limit = refl;
  no_tab = refl;
  wide_tab = refl;
  no_limit = refl;
  large_limit = refl;
  leading_zero = refl;
  sign = refl;
  letter = refl;
  space = refl;
  empty = refl;
}
