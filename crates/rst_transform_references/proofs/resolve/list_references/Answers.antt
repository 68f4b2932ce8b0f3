use Rattle.std.proofs.Common.{◌≡◌, length, refl, rules, tests, arith, sym, ◌∙◌}
use Rattle.std.proofs.lemmas.Iterator.{YieldsList-from_range}
use Rattle.std.proofs.lemmas.Iterator.Search.{any_from_yields_List}
use Rattle.std.specs.Prelude.{option_map, slice_get}
use Rattle.rst_tree.specs.declared.key.Key.TheVariants.{Ids}
use Rattle.rst_transform_work.specs.Lists.{at_place}
use Rattle.rst_transform_work.specs.Reading.{list_of_attribute}
use Rattle.rst_transform_references.specs.Links.{node_at}
use Rattle.rst_transform_references.specs.Resolving.{refers_back, refers_to_note}
use Rattle.rst_transform_references.proofs.Each.{all_next, now_is}
use Rattle.rst_transform_references.proofs.resolve.list_references.Goals as goal

pub loop-place-preserved : goal.loop-place-preserved
loop-place-preserved c =
    let id : option_map (λ i. i.now) c.first_of_attribute-id.result ≡ slice_get (list_of_attribute Ids (node_at c.loop-place.place c.loop-place.links)) 0 = now_is _ _ (search rules) in
    let step : c.refer_back.new.links ≡ refers_back (at_place c.in_ok-notes.notes.items c.loop-place.place) (slice_get (list_of_attribute Ids (node_at c.loop-place.place c.loop-place.links)) 0) c.loop-place.links = search rules in
    rw (all_next (λ place state. refers_back (at_place c.in_ok-notes.notes.items place) (slice_get (list_of_attribute Ids (node_at place state)) 0) state) c.loop-place.place c.args.links.now, ← c.loop-place.invariant) step

pub returns-then-not-any : goal.returns-then-not-any
returns-then-not-any c =
    rw (sym (any_from_yields_List (λ place. refers_to_note (node_at place c.args.links.now)) c.any.new.self _ c.any.result c.any.ensures.ran (YieldsList-from_range 0 c.len.result (length c.args.links.now.linked) refl (omega (arith, c.len.ensures))) (λ x b q k. search (rules, tests))) ∙ c.if-not-any.true) refl

pub returns : goal.returns
returns c =
    let past : c.loop-place.place ≡ length c.args.links.now.linked = search rules in
    rw (sym (any_from_yields_List (λ place. refers_to_note (node_at place c.args.links.now)) c.any.new.self _ c.any.result c.any.ensures.ran (YieldsList-from_range 0 c.len.result (length c.args.links.now.linked) refl (omega (arith, c.len.ensures))) (λ x b q k. search (rules, tests))) ∙ c.if-not-any.false, ← c.in_ok-notes.ensures) (rw past at c.loop-place.invariant)
