use Rattle.std.proofs.Common.{◌≡◌, ◌-◌, suc, length, drop}
use Rattle.rst_block_nodes.specs.LineBlocks.{least_indent, first_line, line_block}
use Rattle.rst_block_nodes.proofs.LineBlockLemmas.{block_after}
use Rattle.rst_block_nodes.proofs.line_blocks.+block_of.Given as goal

abbrev pub decreases-block_of : goal.decreases-block_of
decreases-block_of l = l.levels

abbrev pub invariant-loop-place : goal.invariant-loop-place
invariant-loop-place l =
    block_after l.levels (least_indent l.lines) (first_line l.lines) l.nodes.items l.notes.items (drop l.place l.lines) l.numbers ≡ line_block (suc l.levels) l.lines l.fn.numbers

abbrev pub decreases-loop-place : goal.decreases-loop-place
decreases-loop-place l = length l.lines - l.place
