use Rattle.std.proofs.Common.{◌≡◌, ◌++◌, drop}
use Rattle.rst_block_nodes.specs.Terms.{parts_of_pieces}
use Rattle.rst_block_nodes.proofs.HeadLemmas.{lists_of}
use Rattle.rst_block_nodes.proofs.terms.plain_parts.Given as goal

abbrev pub invariant-loop-piece : goal.invariant-loop-piece
invariant-loop-piece l = lists_of l.parts.items ++ parts_of_pieces l.text (drop l.piece-index l.pieces) ≡ parts_of_pieces l.text l.pieces
