use Rattle.std.proofs.Common.{refl}
use Rattle.rst_json.proofs.Computing.{rst_json}
use Rattle.rst_json.proofs.rows.records.attributes.Goals as goal

pub returns : goal.returns
unfolding rst_json
returns c = record {
  text = refl;
  empty_text = refl;
  number = refl;
  list = refl;
  empty_lists = refl;
  of_transforms = refl;
  message = refl;
  document = refl;
}
