use Rattle.std.proofs.Common.{◌≡◌, replicate}
use Rattle.std.specs.Prelude.{None}
use Rattle.std.specs.List.{range_with_len}
use Rattle.rst_tree.specs.declared.key.Key.TheVariants.{Serial}
use Rattle.rst_transform_work.specs.Reading.{number_of_attribute}
use Rattle.rst_transform_references.specs.Holders.{with_place}
use Rattle.rst_transform_references.specs.Links.{all, node_at}
use Rattle.rst_transform_references.proofs.holders.places_by_number.Given as goal

abbrev pub invariant-loop-place : goal.invariant-loop-place
invariant-loop-place l =
    l.places.items ≡ all (λ place. with_place place (number_of_attribute Serial (node_at place l.links))) (range_with_len 0 l.place) (replicate l.serials None)
