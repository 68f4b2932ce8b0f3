use Rattle.std.proofs.Common.{take}
use Rattle.rst_transform_work.specs.Known.{Makes}
use Rattle.rst_transform_references.specs.Failing.{fails}
use Rattle.rst_transform_references.specs.Links.{each}
use Rattle.rst_transform_references.proofs.failing.fail_for.Given as goal

abbrev pub invariant-loop-place : goal.invariant-loop-place
invariant-loop-place l = Makes (each (fails l.message) (take l.place-index l.places) l.initial.links) l.initial.context l.context l.links
