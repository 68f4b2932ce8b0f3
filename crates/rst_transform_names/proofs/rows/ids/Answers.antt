use Rattle.std.proofs.Common.{refl}
use Rattle.rst_transform_names.proofs.Computing.{rst_transform_names}
use Rattle.rst_transform_names.proofs.rows.ids.Goals as goal

pub returns : goal.returns
unfolding rst_transform_names
returns c = record {
  of_a_name = refl;
  of_no_name = refl;
  with_a_number = refl;
  after_the_last_hyphen = refl;
  no_number = refl;
  without_a_hyphen = refl;
  nothing_before = refl;
  from_one = refl;
  no_leading_zero = refl;
  zero_at_the_end = refl;
  no_digits = refl;
  largest = refl;
  too_large = refl;
}
