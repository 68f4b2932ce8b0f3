use Rattle.std.proofs.Common.{◌≡◌, take}
use Rattle.rst_transform_work.proofs.texts.copies.Given as goal

abbrev pub invariant-loop-node : goal.invariant-loop-node
invariant-loop-node l = l.copied.items ≡ take l.node-index l.node-items
