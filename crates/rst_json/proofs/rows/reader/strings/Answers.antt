use Rattle.std.proofs.Common.{refl}
use Rattle.rst_json.proofs.Computing.{rst_json}
use Rattle.rst_json.proofs.rows.reader.strings.Goals as goal

pub returns : goal.returns
unfolding rst_json
returns c = record {
  quote_and_backslash = refl;
  line_end = refl;
  digits = refl;
  letters = refl;
  beyond_ascii = refl;
}
