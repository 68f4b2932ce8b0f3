use Rattle.std.proofs.Common.{◌∙◌, sym}
use Rattle.rst_inline_scan.specs.Reading.{pieces_of}
use Rattle.rst_inline_scan.proofs.ReadingLemmas.{pieces_of-pieces, pieces_of-only}
use Rattle.rst_inline_scan.proofs.laws.one_list_of_pieces.Goals as goal

pub returns : goal.returns
returns c = record { some = λ mail registered t. (pieces_of mail registered t, pieces_of-pieces mail registered t); one = λ mail registered t ps qs h k. pieces_of-only mail registered t ps h ∙ sym (pieces_of-only mail registered t qs k) }
