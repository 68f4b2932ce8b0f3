use Rattle.std.proofs.Common.{take}
use Rattle.rst_transform_work.specs.Known.{Makes}
use Rattle.rst_transform_references.specs.Footnotes.{labelled}
use Rattle.rst_transform_references.specs.Links.{each}
use Rattle.rst_transform_references.proofs.footnotes.resolve_footnotes.Given as goal

abbrev pub invariant-loop-label : goal.invariant-loop-label
invariant-loop-label l = Makes (each labelled (take l.label-index l.label-items) l.initial.links) l.initial.context l.context l.links
