use Rattle.std.proofs.Common.{◌≡◌, ◌++◌, length, map}
use Rattle.rst_block_state.specs.Directives.{classed}
use Rattle.rst_block_markup.proofs.quotes.finished_quotes.Given as goal

abbrev pub invariant-loop-node : goal.invariant-loop-node
invariant-loop-node l = l.made ++ map (classed l.class) l.rest ≡ map (classed l.class) l.initial.rest

abbrev pub decreases-loop-node : goal.decreases-loop-node
decreases-loop-node l = length l.rest
