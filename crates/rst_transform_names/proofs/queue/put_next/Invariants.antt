use Rattle.std.proofs.Common.{◌≡◌, ◌++◌, length}
use Rattle.rst_transform_names.specs.NameMessages.{after_next, before_next}
use Rattle.rst_transform_names.proofs.queue.put_next.Given as goal

abbrev pub invariant-loop-queued : goal.invariant-loop-queued
invariant-loop-queued l = record {
  nodes : l.nodes.items ++ before_next l.queue.items ≡ l.fn.nodes.items ++ before_next l.fn.queue.items;
  queue : after_next l.queue.items ≡ after_next l.fn.queue.items;
}

abbrev pub decreases-loop-queued : goal.decreases-loop-queued
decreases-loop-queued l = length l.queue.items
