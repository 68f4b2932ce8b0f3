use Rattle.std.proofs.Common.{refl}
use Rattle.rst_inline_scan.specs.Pieces.{nothing}
use Rattle.rst_inline_scan.proofs.QuietLemmas.{quiet-one}
use Rattle.rst_inline_scan.proofs.laws.quiet_is_one_piece.Goals as goal

pub returns : goal.returns
returns c = record {
  one = λ mail registered t h some. quiet-one mail registered t h some;
  none = λ mail registered. nothing refl;
}
