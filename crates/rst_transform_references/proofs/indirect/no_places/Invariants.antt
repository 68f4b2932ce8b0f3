use Rattle.std.proofs.Common.{◌≡◌, [], replicate}
use Rattle.rst_transform_references.specs.Indirect.{lists_now}
use Rattle.rst_transform_references.proofs.indirect.no_places.Given as goal

abbrev pub invariant-loop : goal.invariant-loop
invariant-loop l = lists_now l.lists.items ≡ replicate l.counter []
