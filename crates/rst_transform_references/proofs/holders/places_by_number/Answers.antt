use Rattle.std.proofs.Common.{◌≡◌, ◌∙◌, sym, ap, replicate, rules}
use Rattle.std.specs.Prelude.{None}
use Rattle.rst_tree.specs.declared.key.Key.TheVariants.{Serial}
use Rattle.rst_transform_work.specs.Reading.{number_of_attribute}
use Rattle.rst_transform_references.specs.Holders.{with_place}
use Rattle.rst_transform_references.specs.Links.{node_at}
use Rattle.rst_transform_references.proofs.Each.{all_next}
use Rattle.rst_transform_references.proofs.holders.places_by_number.Goals as goal
use Rattle.rst_transform_references.proofs.holders.places_by_number.Goals.{in-Some, in_default}

pub loop-place-preserved : goal.loop-place-preserved
loop-place-preserved c =
    let number = number_of_attribute Serial (node_at c.loop-place.place c.args.links.now) in
    let is : c.match-number_of_attribute.places.items ≡ with_place c.loop-place.place number c.loop-place.places.items =
    elim c.match-number_of_attribute.branch [ in-Some w ↦ search rules | in_default w ↦ search rules ] in
    is ∙ ap (with_place c.loop-place.place number) c.loop-place.invariant ∙ sym (all_next (λ place. with_place place (number_of_attribute Serial (node_at place c.args.links.now))) c.loop-place.place (replicate c.args.serials None))
