use Rattle.std.proofs.Common.{refl}
use Rattle.rst_json.proofs.Computing.{rst_json}
use Rattle.rst_json.proofs.rows.json.attributes.Goals as goal

pub returns : goal.returns
unfolding rst_json
returns c = record {
  text = refl;
  empty_text = refl;
  colon = refl;
  number = refl;
  zero = refl;
  largest_number = refl;
  list = refl;
  list_of_one = refl;
  empty_lists = refl;
  of_transforms = refl;
  in_an_object = refl;
  first_left_out = refl;
  all_left_out = refl;
}
