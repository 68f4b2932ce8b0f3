use Rattle.std.proofs.Common.{◌≡◌, ◌+◌, drop}
use Rattle.rst_block_nodes.specs.Sections.{level_of}
use Rattle.rst_block_nodes.proofs.sectioning.level_of.Given as goal

abbrev pub invariant-loop-place : goal.invariant-loop-place
invariant-loop-place l = l.place + level_of l.style (drop l.place l.styles) ≡ level_of l.style l.styles
