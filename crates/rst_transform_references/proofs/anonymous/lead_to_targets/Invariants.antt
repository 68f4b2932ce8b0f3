use Rattle.std.proofs.Common.{◌≡◌, take}
use Rattle.rst_transform_references.specs.Anonymous.{leads_to_target}
use Rattle.rst_transform_references.specs.Links.{all}
use Rattle.rst_transform_references.proofs.anonymous.lead_to_targets.Given as goal

abbrev pub invariant-loop-pair : goal.invariant-loop-pair
invariant-loop-pair l = l.links ≡ all leads_to_target (take l.pair-index l.pair-items) l.initial.links
