use Rattle.std.proofs.Common.{sym, subst, arith}
use Rattle.rst_inline_scan.specs.Pieces.{IsPieces}
use Rattle.rst_inline_scan.proofs.PieceLemmas.{IsPieces-within}
use Rattle.rst_inline.proofs.nodes.marked_text.Goals as goal

pub read-requires : goal.read-requires
read-requires c =
    let t = c.in_ok-written.written.characters.items in
    let parts = c.in_ok-written.written.parts.now in
    IsPieces-within parts.mail parts.unmarked t 0 c.deref.result.now (omega arith) (subst (IsPieces parts.mail parts.unmarked t 0) (sym c.deref.ensures.value) c.in_ok-pieces.ensures)
