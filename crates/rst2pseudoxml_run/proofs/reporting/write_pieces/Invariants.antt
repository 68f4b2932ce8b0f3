use Rattle.std.proofs.Common.{◌≡◌, length, take}
use Rattle.rst_text.specs.Counted.{IsSent}
use Rattle.rst2pseudoxml_run.proofs.StreamLemmas.{joined}
use Rattle.rst2pseudoxml_run.proofs.reporting.write_pieces.Given as goal

-- the pieces so far were written, all of each
abbrev pub invariant-loop-piece : goal.invariant-loop-piece
invariant-loop-piece g l = (sent : IsSent g.E.WriteCall.call_takes g.E.Write.contents l.fn.err l.err (joined (take l.piece-index l.pieces))) × (sent.taken ≡ length (joined (take l.piece-index l.pieces)))
