use Rattle.std.proofs.Common.{refl}
use Rattle.rst_json.proofs.Computing.{rst_json}
use Rattle.rst_json.proofs.rows.json.strings.Goals as goal

pub returns : goal.returns
unfolding rst_json
returns c = record {
  plain = refl;
  empty = refl;
  quote = refl;
  backslash = refl;
  line_ends = refl;
  controls = refl;
  controls_from_16 = refl;
  others = refl;
  delete = refl;
  beyond_ascii = refl;
}
