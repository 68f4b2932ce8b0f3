use Rattle.std.proofs.Common.{◌≡◌, ◌∙◌, ◌∷◌, ◌++◌, [], ap, arith, rules, sym}
use Rattle.std.proofs.lemmas.List.FromFn.{map-range_with_len_more}
use Rattle.rst_transform_names.specs.Names.{entry_named}
use Rattle.rst_transform_references.specs.Aliases.{names_before, with_alias}
use Rattle.rst_transform_references.specs.Chains.{own_step}
use Rattle.rst_transform_references.specs.Links.{node_at}
use Rattle.rst_transform_references.proofs.Each.{all_next}
use Rattle.rst_transform_references.proofs.indirect.steps_of.Goals as goal

pub loop-place-preserved : goal.loop-place-preserved
loop-place-preserved c =
    let first = entry_named c.args.names.now in
    let places = c.args.places.now in
    let links = c.args.links.now in
    let at = c.loop-place.place in
    let held = c.loop-place.invariant in
    let own : c.in_ok-step.step ≡ own_step (entry_named c.loop-place.names) places links (node_at at links) = search rules in
    let step : c.in_ok-step.step ≡ own_step (names_before at places links first) places links (node_at at links) = own ∙ (λ i. own_step (λ name. held.1 name i) places links (node_at at links)) in
    let pushed : c.push.new.self.items ≡ c.loop-place.steps.items ++ c.in_ok-step.step ∷ [] = search rules in (
      rw (map-range_with_len_more (λ place. own_step (names_before place places links first) places links (node_at place links)) 0 at at (omega arith), ← step, ← held.0) pushed,
      λ name. c.in_ok-hold_alias.ensures name ∙ (λ i. with_alias places links at (λ other. held.1 other i) name) ∙ sym (ap (λ names. names name) (all_next (with_alias places links) at first)),
    )
