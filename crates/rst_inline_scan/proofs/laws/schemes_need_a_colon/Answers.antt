use Rattle.std.proofs.Common.{true, false, sym}
use Rattle.rst_inline_scan.specs.Reading.{pieces_of}
use Rattle.rst_inline_scan.proofs.AskedLemmas.{colonless-pieces}
use Rattle.rst_inline_scan.proofs.ReadingLemmas.{pieces_of-pieces, pieces_of-only}
use Rattle.rst_inline_scan.proofs.laws.schemes_need_a_colon.Goals as goal

pub returns : goal.returns
returns c = λ mail t h. sym (pieces_of-only mail true t (pieces_of mail false t) (colonless-pieces mail t (pieces_of mail false t) h (pieces_of-pieces mail false t)))
