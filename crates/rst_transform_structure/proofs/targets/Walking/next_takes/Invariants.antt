use Rattle.std.proofs.Common.{◌≡◌, ◌≤◌, ◌-◌, drop, length}
use Rattle.rst_transform_structure.specs.Targets.{first_takes}
use Rattle.rst_transform_structure.proofs.targets.Walking.next_takes.Given as goal

abbrev pub decreases-loop-taker : goal.decreases-loop-taker
decreases-loop-taker l = length l.self.takers - l.place

abbrev pub invariant-loop-taker : goal.invariant-loop-taker
invariant-loop-taker l = record { within : l.place ≤ length l.self.takers; same : first_takes l.self.takers ≡ first_takes (drop l.place l.self.takers) }
