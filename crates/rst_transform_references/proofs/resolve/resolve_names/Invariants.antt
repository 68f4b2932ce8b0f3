use Rattle.std.specs.List.{range_with_len}
use Rattle.rst_transform_work.specs.Known.{Makes}
use Rattle.rst_transform_references.specs.Links.{each}
use Rattle.rst_transform_references.specs.Resolving.{resolves}
use Rattle.rst_transform_references.proofs.resolve.resolve_names.Given as goal

abbrev pub invariant-loop-place : goal.invariant-loop-place
invariant-loop-place l = Makes (each (resolves l.places.items) (range_with_len 0 l.place) l.initial.links) l.initial.context l.context l.links
