use Rattle.std.proofs.Common.{◌≡◌}
use Rattle.std.specs.List.{flat_map}
use Rattle.rst_transform_substitutions.specs.Expanded.{unwrapped_reference}
use Rattle.rst_transform_substitutions.proofs.expand.open_references.Given as goal

abbrev pub invariant-loop-node : goal.invariant-loop-node
invariant-loop-node l = l.done.items ≡ flat_map unwrapped_reference l.yielded
