use Rattle.std.proofs.Common.{◌≡◌, take}
use Rattle.rst_transform_references.specs.Indirect.{all_lead}
use Rattle.rst_transform_references.proofs.indirect.lead_all.Given as goal

abbrev pub invariant-loop-place : goal.invariant-loop-place
invariant-loop-place l = l.links ≡ all_lead l.lead (take l.place-index l.place-items) l.initial.links
