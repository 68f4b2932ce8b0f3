use Rattle.std.proofs.Common.{◌≡◌, map}
use Rattle.std.specs.List.{range_with_len}
use Rattle.rst_transform_names.specs.Names.{entry_named, AreRegistered}
use Rattle.rst_transform_references.specs.Aliases.{names_before}
use Rattle.rst_transform_references.specs.Chains.{own_step}
use Rattle.rst_transform_references.specs.Links.{node_at}
use Rattle.rst_transform_references.proofs.indirect.steps_of.Given as goal

abbrev pub invariant-loop-place : goal.invariant-loop-place
invariant-loop-place l =
    (l.steps.items ≡ map (λ place. own_step (names_before place l.places l.links (entry_named l.initial.names)) l.places l.links (node_at place l.links)) (range_with_len 0 l.place))
    × AreRegistered l.names (names_before l.place l.places l.links (entry_named l.initial.names))
