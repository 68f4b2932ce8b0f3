use Rattle.std.proofs.Common.{refl}
use Rattle.rst_json.proofs.Computing.{rst_json}
use Rattle.rst_json.proofs.rows.reader.refusals.Goals as goal

pub returns : goal.returns
unfolding rst_json
returns c = record {
  nothing = refl;
  number = refl;
  empty_array = refl;
  word = refl;
  unended_string = refl;
  unended_array = refl;
  ended_twice = refl;
  comma_at_the_end = refl;
  no_attributes = refl;
  other_order = refl;
  unknown_tag = refl;
  two = refl;
}
