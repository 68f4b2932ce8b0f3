use Rattle.std.proofs.Common.{◌≡◌, length}
use Rattle.rst_block_state.specs.Directives.{first_paragraph}
use Rattle.rst_block_markup.proofs.substitution.first_paragraph.Given as goal

abbrev pub invariant-loop-node : goal.invariant-loop-node
invariant-loop-node l = first_paragraph l.rest ≡ first_paragraph l.initial.rest

abbrev pub decreases-loop-node : goal.decreases-loop-node
decreases-loop-node l = length l.rest
