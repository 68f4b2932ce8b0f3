use Rattle.std.proofs.Common.{◌≡◌, ◌≤◌, ◌++◌, drop, length}
use Rattle.std.specs.Prelude.{reverse}
use Rattle.rst_transform_structure.proofs.targets.add_backwards.Given as goal

abbrev pub decreases-loop-left : goal.decreases-loop-left
decreases-loop-left l = l.left

abbrev pub invariant-loop-left : goal.invariant-loop-left
invariant-loop-left l = record { within : l.left ≤ length l.more; put : l.texts.items ≡ l.initial.texts.items ++ reverse (drop l.left l.more) }
