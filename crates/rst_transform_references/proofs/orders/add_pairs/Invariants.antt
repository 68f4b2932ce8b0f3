use Rattle.std.proofs.Common.{◌≡◌, take}
use Rattle.rst_transform_references.specs.Indirect.{with_pairs}
use Rattle.rst_transform_references.proofs.orders.add_pairs.Given as goal

abbrev pub invariant-loop-pair : goal.invariant-loop-pair
invariant-loop-pair l = l.referents.items ≡ with_pairs (take l.pair-index l.pair-items) l.initial.referents.items
