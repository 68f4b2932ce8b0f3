use Rattle.std.proofs.Common.{◌≡◌, ◌≤◌, ◌+◌, List, length}
use Rattle.rst_block_nodes.specs.OpenSections.{closed_with, StopsAt}
use Rattle.rst_block_nodes.specs.Sections.{Member}
use Rattle.rst_block_nodes.proofs.sectioning.Sections.end.Given as goal

abbrev pub decreases-loop-alloc : goal.decreases-loop-alloc
decreases-loop-alloc l = length l.self.outer.items

abbrev pub invariant-loop-alloc : goal.invariant-loop-alloc
invariant-loop-alloc l = record {
  closed : (ms : List Member) → StopsAt l.level ms → closed_with l.self ms ≡ closed_with l.initial.self ms;
  enough : l.level ≤ length l.initial.self.outer.items + 1 → l.level ≤ length l.self.outer.items + 1;
  styles : l.self.styles ≡ l.initial.self.styles;
}
