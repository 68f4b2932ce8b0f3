use Rattle.std.proofs.Common.{◌≡◌, drop}
use Rattle.rst_transform_references.proofs.changes.skip.Given as goal

abbrev pub invariant-loop : goal.invariant-loop
invariant-loop l = l.left.items ≡ drop l.counter l.initial.left.items
