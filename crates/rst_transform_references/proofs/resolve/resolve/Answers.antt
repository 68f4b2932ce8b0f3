use Rattle.std.proofs.Common.{◌≡◌, false, true, rules}
use Rattle.std.specs.Prelude.{is_none, Some, None}
use Rattle.rst_transform_references.specs.Holders.{holder_place, is_nobody}
use Rattle.rst_transform_references.specs.Links.{node_at}
use Rattle.rst_transform_references.specs.Resolving.{name_at, note_at, refers_to_note}
use Rattle.rst_transform_references.proofs.Naming.{named}
use Rattle.rst_transform_references.proofs.resolve.resolve.Goals as goal
use Rattle.rst_transform_references.proofs.resolve.resolve.Goals.{else-not-is_reference-via-else-not-is_reference, else-not-is_reference-via-then-not-is_reference+else-not-refers_to_note}

pub returns-in_default-get : goal.returns-in_default-get
returns-in_default-get c =
    let is : name_at c.args.place c.args.links.now ≡ Some c.in-Some.name.now = elim c.else-not-is_reference.branch [ else-not-is_reference-via-else-not-is_reference w ↦ search rules | else-not-is_reference-via-then-not-is_reference+else-not-refers_to_note w ↦ search rules ] in
    named c.args.places.now c.args.place c.in-Some.name.now None c.args.links.now c.fail_by_name.new.links c.args.context.now c.fail_by_name.new.context is (search rules) c.in_ok-fail_by_name.ensures

pub returns-then-is_lost : goal.returns-then-is_lost
returns-then-is_lost c =
    let is : name_at c.args.place c.args.links.now ≡ Some c.in-Some.name.now = elim c.else-not-is_reference.branch [ else-not-is_reference-via-else-not-is_reference w ↦ search rules | else-not-is_reference-via-then-not-is_reference+else-not-refers_to_note w ↦ search rules ] in
    let lost : is_nobody c.in-Some-get.known.now.holder ≡ true = search rules in
    named c.args.places.now c.args.place c.in-Some.name.now (Some c.in-Some-get.known.now) c.args.links.now c.fail_by_name-then-is_lost.new.links c.args.context.now c.fail_by_name-then-is_lost.new.context is (search rules)
    (λ known h. rw lost (c.in_ok-fail_by_name-2.ensures known h))

pub returns-then-is_none : goal.returns-then-is_none
returns-then-is_none c =
    let is : name_at c.args.place c.args.links.now ≡ Some c.in-Some.name.now = elim c.else-not-is_reference.branch [ else-not-is_reference-via-else-not-is_reference w ↦ search rules | else-not-is_reference-via-then-not-is_reference+else-not-refers_to_note w ↦ search rules ] in
    let kept : is_nobody c.in-Some-get.known.now.holder ≡ false = search rules in
    let refers : refers_to_note (node_at c.args.place c.args.links.now) ≡ true = search rules in
    let none : is_none (note_at (holder_place c.args.places.now c.in-Some-get.known.now.holder) c.args.links.now) ≡ true = search rules in
    named c.args.places.now c.args.place c.in-Some.name.now (Some c.in-Some-get.known.now) c.args.links.now c.fail_by_name-then-is_none.new.links c.args.context.now c.fail_by_name-then-is_none.new.context is (search rules)
    (λ known h. rw (kept, refers, none) (c.in_ok-fail_by_name-3.ensures known h))
