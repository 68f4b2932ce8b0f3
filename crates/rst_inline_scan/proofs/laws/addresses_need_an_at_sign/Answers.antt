use Rattle.std.proofs.Common.{true, false, sym}
use Rattle.rst_inline_scan.specs.Reading.{pieces_of}
use Rattle.rst_inline_scan.proofs.AskedLemmas.{unaddressed-pieces}
use Rattle.rst_inline_scan.proofs.ReadingLemmas.{pieces_of-pieces, pieces_of-only}
use Rattle.rst_inline_scan.proofs.laws.addresses_need_an_at_sign.Goals as goal

pub returns : goal.returns
returns c = λ registered t h.
    sym (pieces_of-only true registered t (pieces_of false registered t) (unaddressed-pieces registered t (pieces_of false registered t) h (pieces_of-pieces false registered t)))
