use Rattle.std.proofs.Common.{◌≡◌, ◌-◌, length, map}
use Rattle.std.specs.List.{range_with_len}
use Rattle.rst_transform_references.proofs.Following.{end, number, Walk}
use Rattle.rst_transform_references.proofs.chains.answers.Given as goal

abbrev pub invariant-loop-start : goal.invariant-loop-start
invariant-loop-start l = record {
  known : l.answers.items ≡ map (end l.steps) (range_with_len 0 l.start);
  walk : Walk l.steps l.start l.starts.items l.start;
}

abbrev pub invariant-loop-next : goal.invariant-loop-next
invariant-loop-next l = Walk l.steps l.start l.starts.items l.place

abbrev pub decreases-loop-next : goal.decreases-loop-next
decreases-loop-next l = length l.steps - number l.starts.items
