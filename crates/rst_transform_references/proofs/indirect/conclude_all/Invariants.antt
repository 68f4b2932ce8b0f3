use Rattle.std.specs.List.{range_with_len}
use Rattle.rst_transform_work.specs.Known.{Makes}
use Rattle.rst_transform_work.specs.Lists.{at_place}
use Rattle.rst_transform_references.specs.Indirect.{concludes, references_to}
use Rattle.rst_transform_references.specs.Links.{each}
use Rattle.rst_transform_references.proofs.indirect.conclude_all.Given as goal

abbrev pub invariant-loop-place : goal.invariant-loop-place
invariant-loop-place l = Makes (each (λ place. concludes place (references_to l.targets.items place) (at_place l.answers place)) (range_with_len 0 l.place) l.initial.links) l.initial.context l.context l.links
