use Rattle.std.proofs.Common.{◌≡◌, length, map}
use Rattle.std.specs.List.{range_with_len}
use Rattle.rst_transform_references.specs.Indirect.{lists_now}
use Rattle.rst_transform_references.proofs.Grouping.{found}
use Rattle.rst_transform_references.proofs.indirect.references_to_each.Given as goal

abbrev pub invariant-loop-place : goal.invariant-loop-place
invariant-loop-place l = lists_now l.lists.items ≡ map (found l.targets l.place) (range_with_len 0 (length l.targets))
