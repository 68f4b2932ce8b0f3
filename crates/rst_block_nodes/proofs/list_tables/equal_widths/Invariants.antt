use Rattle.std.proofs.Common.{◌≡◌, ◌/◌, replicate}
use Rattle.rst_block_nodes.proofs.list_tables.equal_widths.Given as goal

abbrev pub invariant-loop-place : goal.invariant-loop-place
invariant-loop-place l = l.widths.items ≡ replicate l._place (100 / l.columns)
