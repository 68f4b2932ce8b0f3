use Rattle.std.proofs.Common.{◌≡◌, ◌++◌, false, [], drop}
use Rattle.rst_block_nodes.specs.Terms.{cut_at_delimiters}
use Rattle.rst_block_nodes.proofs.terms.cut_at_delimiters.Given as goal

abbrev pub invariant-loop-place : goal.invariant-loop-place
invariant-loop-place l = l.parts.items ++ cut_at_delimiters l.skipping l.part.items (drop l.place l.letters) ≡ cut_at_delimiters false [] l.letters
