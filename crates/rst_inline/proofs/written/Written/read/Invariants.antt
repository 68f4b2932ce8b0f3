use Rattle.std.proofs.Common.{◌≡◌, ◌++◌, drop}
use Rattle.rst_inline.specs.Results.{notes_of, nodes_from}
use Rattle.rst_inline.proofs.written.Written.read.Given as goal

abbrev pub invariant-loop-piece : goal.invariant-loop-piece
invariant-loop-piece l =
    let t = l.self.characters.items in
    let rest = drop l.piece-index l.pieces in
    record {
      nodes : l.nodes.items ++ nodes_from l.self.parts.now t l.self.line l.number rest ≡ nodes_from l.self.parts.now t l.self.line l.first l.pieces;
      notes : l.notes.items ++ notes_of l.self.parts.now t l.self.line rest ≡ notes_of l.self.parts.now t l.self.line l.pieces;
    }
