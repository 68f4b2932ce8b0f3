use Rattle.std.proofs.Common.{◌≡◌, ◌∙◌, ℕ, length, ap, refl, rules, tests, arith, sym}
use Rattle.std.proofs.lemmas.Iterator.{YieldsList-from_range}
use Rattle.std.proofs.lemmas.Iterator.Search.{any_from_yields_List}
use Rattle.std.specs.Prelude.{List, Option, is_some}
use Rattle.rst_transform_names.specs.Names.{entry_named}
use Rattle.rst_transform_references.specs.Aliases.{names_before}
use Rattle.rst_transform_references.specs.Chains.{answers_of, indirect_name}
use Rattle.rst_transform_references.specs.Holders.{places_by_number}
use Rattle.rst_transform_references.specs.Indirect.{indirect, steps_of}
use Rattle.rst_transform_references.specs.Links.{node_at}
use Rattle.rst_transform_references.proofs.indirect.resolve_indirect.Goals as goal

pub returns-then-not-any : goal.returns-then-not-any
unfolding indirect
returns-then-not-any c known h =
    rw (sym (any_from_yields_List (λ place. is_some (indirect_name (node_at place c.args.links.now))) c.any.new.self _ c.any.result c.any.ensures.ran (YieldsList-from_range 0 c.len.result (length c.args.links.now.linked) refl (omega (arith, c.len.ensures))) (λ x b q k. search (rules, tests))) ∙ c.if-not-any.true) (refl, h)

pub returns : goal.returns
unfolding indirect
returns c known h =
    let links = c.args.links.now in
    let at : c.in_ok-places.places.items ≡ places_by_number c.args.context.now.serials links = search rules in
    let places : c.in_ok-places.places.items ≡ places_by_number known.serials links = at ∙ ap (λ (n : ℕ). places_by_number n links) h.serials in
    let answered : c.in_ok-answers.answers.items ≡ answers_of (steps_of (entry_named c.args.context.now.names) c.in_ok-places.places.items links) = search rules in
    let answers : c.in_ok-answers.answers.items ≡ answers_of (steps_of known.names c.in_ok-places.places.items links) = answered ∙ (λ i. answers_of (steps_of (λ name. h.names name i) c.in_ok-places.places.items links)) in
    let done =
    c.in_ok-conclude_all.ensures (record known { names = names_before (length links.linked) c.in_ok-places.places.items links known.names }) (record {
      ids = h.ids;
      names = λ name. c.in_ok-steps.ensures.names name
          ∙ ap (λ (places : List (Option ℕ)). names_before (length links.linked) places links (entry_named c.args.context.now.names) name) c.deref.ensures.value
          ∙ (λ i. names_before (length links.linked) c.in_ok-places.places.items links (λ other. h.names other i) name);
      reports = h.reports;
      first_number = h.first_number;
      serials = h.serials;
    }) in
    rw (sym (any_from_yields_List (λ place. is_some (indirect_name (node_at place links))) c.any.new.self _ c.any.result c.any.ensures.ran (YieldsList-from_range 0 c.len.result (length links.linked) refl (omega (arith, c.len.ensures))) (λ x b q k. search (rules, tests))) ∙ c.if-not-any.false, ← places, ← answers) (rw (c.deref-3.ensures.value, c.deref-4.ensures.value) at done)
