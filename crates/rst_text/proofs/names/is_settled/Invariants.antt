use Rattle.std.proofs.Common.{drop}
use Rattle.rst_text.proofs.Words.{Settles}
use Rattle.rst_text.proofs.names.is_settled.Given as goal

abbrev pub invariant-loop-byte : goal.invariant-loop-byte
invariant-loop-byte g l = Settles g.C.Case.cased l.text (drop l.byte-index l.byte-items) l.in_word
