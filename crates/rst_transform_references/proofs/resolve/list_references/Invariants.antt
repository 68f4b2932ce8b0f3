use Rattle.std.proofs.Common.{◌≡◌}
use Rattle.std.specs.List.{range_with_len}
use Rattle.std.specs.Prelude.{slice_get}
use Rattle.rst_tree.specs.declared.key.Key.TheVariants.{Ids}
use Rattle.rst_transform_work.specs.Lists.{at_place}
use Rattle.rst_transform_work.specs.Reading.{list_of_attribute}
use Rattle.rst_transform_references.specs.Links.{all, node_at}
use Rattle.rst_transform_references.specs.Resolving.{refers_back}
use Rattle.rst_transform_references.proofs.resolve.list_references.Given as goal

abbrev pub invariant-loop-place : goal.invariant-loop-place
invariant-loop-place l =
    l.links ≡ all (λ place state. refers_back (at_place l.notes.items place) (slice_get (list_of_attribute Ids (node_at place state)) 0) state) (range_with_len 0 l.place) l.initial.links
