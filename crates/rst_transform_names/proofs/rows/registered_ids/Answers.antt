use Rattle.std.proofs.Common.{refl}
use Rattle.rst_transform_names.proofs.Computing.{rst_transform_names}
use Rattle.rst_transform_names.proofs.rows.registered_ids.Goals as goal

pub returns : goal.returns
unfolding rst_transform_names
returns c = record {
  ids_of_kinds = refl;
  id_of_a_name = refl;
  id_that_is_taken = refl;
  number_that_is_taken = refl;
  number_that_a_name_took = refl;
  taken_ids = refl;
  elements_with_numbers = refl;
}
