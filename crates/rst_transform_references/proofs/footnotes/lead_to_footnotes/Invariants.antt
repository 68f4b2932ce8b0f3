use Rattle.std.proofs.Common.{◌≡◌, take}
use Rattle.rst_transform_references.specs.Footnotes.{leads_to_footnote}
use Rattle.rst_transform_references.specs.Links.{all}
use Rattle.rst_transform_references.proofs.footnotes.lead_to_footnotes.Given as goal

abbrev pub invariant-loop-pair : goal.invariant-loop-pair
invariant-loop-pair l = l.links ≡ all leads_to_footnote (take l.pair-index l.pair-items) l.initial.links
