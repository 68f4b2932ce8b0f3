use Rattle.std.proofs.Common.{refl}
use Rattle.rst_inline_scan.proofs.Computing.{rst_inline_scan}
use Rattle.rst_inline_scan.proofs.rows.characters.Goals as goal

pub returns : goal.returns
unfolding rst_inline_scan
returns c = record {
  before = refl;
  after = refl;
  before_past_ascii = refl;
  after_past_ascii = refl;
}
