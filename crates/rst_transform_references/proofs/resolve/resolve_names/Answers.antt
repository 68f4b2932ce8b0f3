use Rattle.std.proofs.Common.{◌≡◌, ◌∙◌, ℕ, ap, length, rules}
use Rattle.rst_transform_references.specs.Holders.{places_by_number}
use Rattle.rst_transform_references.specs.Resolving.{references, resolves, with_backrefs}
use Rattle.rst_transform_references.proofs.Each.{each_next}
use Rattle.rst_transform_references.proofs.resolve.resolve_names.Goals as goal

pub loop-place-preserved : goal.loop-place-preserved
loop-place-preserved c =
    each_next (resolves c.in_ok-places.places.items) c.loop-place.place c.args.context.now c.loop-place.context c.resolve.new.context c.list_references.new.links c.loop-place.links c.resolve.new.links c.loop-place.invariant
    (rw (c.deref-in-loop-place.ensures.value) at c.in_ok-resolve.ensures)

pub returns : goal.returns
unfolding references
returns c known h =
    let at : c.in_ok-places.places.items ≡ places_by_number c.args.context.now.serials c.args.links.now = search rules in
    let places : c.in_ok-places.places.items ≡ places_by_number known.serials c.args.links.now = at ∙ ap (λ (n : ℕ). places_by_number n c.args.links.now) h.serials in
    let listed : c.list_references.new.links ≡ with_backrefs known.names c.in_ok-places.places.items c.args.links.now =
    (rw (c.deref.ensures.value) at c.in_ok-list_references.ensures) ∙ (λ i. with_backrefs (λ name. h.names name i) c.in_ok-places.places.items c.args.links.now) in
    let past : c.loop-place.place ≡ length c.list_references.new.links.linked = search rules in
    rw (← places, ← listed) (rw past at c.loop-place.invariant known h)
