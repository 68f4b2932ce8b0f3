use Rattle.rst_inline_scan.proofs.ReadingLemmas.{pieces_of-pieces}
use Rattle.rst_inline_scan.proofs.laws.pieces_are_found.Goals as goal

pub returns : goal.returns
returns c = λ mail registered t. pieces_of-pieces mail registered t
