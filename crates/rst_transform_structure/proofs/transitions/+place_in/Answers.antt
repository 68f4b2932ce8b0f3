use Rattle.std.proofs.Common.{◌≡◌, ◌+◌, ◌≤◌, Some, true, false, rules, tests, refl, ap, sym, ◌∙◌}
use Rattle.std.specs.Prelude.{◌&&◌, ◌==◌}
use Rattle.std.specs.List.{list_all}
use Rattle.std.proofs.lemmas.List.{map-id}
use Rattle.std.proofs.lemmas.Iterator.{YieldsList-from_slice}
use Rattle.std.proofs.lemmas.Iterator.Search.{all_from_yields_List}
use Rattle.std.proofs.lemmas.Iterator.Consumers.{YieldsList-turn, YieldsList-end}
use Rattle.std.proofs.lemmas.Iterator.Adapters.{YieldsList-from_vec}
use Rattle.rst_tree.specs.Forest.{height}
use Rattle.rst_tree.proofs.PrintedParts.{inside_lower}
use Rattle.rst_tree_index.specs.Kinds.{is_transition}
use Rattle.rst_transform_names.specs.NameMessages.{is_section}
use Rattle.rst_transform_structure.specs.declared.transitions.TransitionFault.TheVariants.{AtBeginning}
use Rattle.rst_transform_structure.specs.Transitions.{keeps_place, placed_in}
use Rattle.rst_transform_structure.proofs.Placing.{all_keep, own_kept, own_section, own_transition, placing_all, placing_more}
use Rattle.rst_transform_structure.proofs.transitions.+place_in.Goals as goal
use Rattle.rst_transform_structure.proofs.transitions.+place_in.Goals.{then-ends, else-ends}

pub place_in-requires : goal.place_in-requires
place_in-requires t c =
    let turn = YieldsList-turn (YieldsList-from_vec {s = c.into_iter-node-iterator.result} c.into_list-list.result.items (search rules) (search rules))
    c.loop-node.yielded c.loop-node.node-iterator c.loop-node.yielded_by c.next.result c.next.new.self c.in-Some.node c.in-Some.is c.next.ensures.steps in
    let h : height c.in-Element.children + 1 ≤ height c.args.nodes =
    inside_lower c.in-Some.node c.in-Element.tag c.in-Element.attrs c.in-Element.children c.args.nodes c.in-Element.line c.into_list-list.result.items _
    c.in-Element.is c.into_list-list.ensures.forest turn.1 turn.0 in
    search (rules, h)

pub loop-node-preserved-in-Text : goal.loop-node-preserved-in-Text
loop-node-preserved-in-Text t c =
    let keeps : keeps_place c.in-Some.node ≡ true = ap keeps_place c.in-Text.is in
    placing_more c.args.context.now c.args.ends c.args.nodes c.loop-node.left _ c.loop-node.yielded c.loop-node.next_fault _ c.loop-node.placed.items _ c.loop-node.context _ c.in-Some.node _ _
    c.loop-node.invariant c.saturating_sub-left.ensures c.fault_after-next_fault.ensures refl (own_kept _ _ _ _ _ keeps)
    (rw c.in-Text.is c.in_ok-push-in-Text.ensures.items) refl refl

pub loop-node-preserved-then-is_section : goal.loop-node-preserved-then-is_section
loop-node-preserved-then-is_section t c =
    let ended : c.if-ends.last ≡ (c.args.ends && c.saturating_sub-left.result == 0) =
    elim c.if-ends.branch [ then-ends w ↦ rw w.if-ends.true w.last-is | else-ends w ↦ rw w.if-ends.false (w.last-is ∙ w.if-ends.false) ] in
    placing_more c.args.context.now c.args.ends c.args.nodes c.loop-node.left _ c.loop-node.yielded c.loop-node.next_fault _ c.loop-node.placed.items _ c.loop-node.context _ c.in-Some.node _ _
    c.loop-node.invariant c.saturating_sub-left.ensures c.fault_after-next_fault.ensures ended
    (own_section _ _ _ _ _ _ _ _ _ c.in-Element.is _ _ (sym c.is_section.ensures ∙ c.if-is_section.true) c.in_ok-inner-in-Element.ensures.placed)
    c.in_ok-put_section-in-Element.ensures refl c.in_ok-inner-in-Element.ensures.rest

pub loop-node-preserved-then-is_transition : goal.loop-node-preserved-then-is_transition
loop-node-preserved-then-is_transition t c =
    let ended : c.if-ends.last ≡ (c.args.ends && c.saturating_sub-left.result == 0) =
    elim c.if-ends.branch [ then-ends w ↦ rw w.if-ends.true w.last-is | else-ends w ↦ rw w.if-ends.false (w.last-is ∙ w.if-ends.false) ] in
    placing_more c.args.context.now c.args.ends c.args.nodes c.loop-node.left _ c.loop-node.yielded c.loop-node.next_fault _ c.loop-node.placed.items _ c.loop-node.context _ c.in-Some.node _ _
    c.loop-node.invariant c.saturating_sub-left.ensures c.fault_after-next_fault.ensures ended
    (own_transition _ _ _ _ _ _ _ _ _ c.in-Element.is (sym c.is_section.ensures ∙ c.if-is_section.false) (sym c.is_transition.ensures ∙ c.if-is_transition.true))
    (rw (c.in-Element.is, ← c.element-node.ensures) c.in_ok-put_transition-in-Element.ensures.nodes.0) (rw (c.in-Element.is, ← c.element-node.ensures) c.in_ok-put_transition-in-Element.ensures.nodes.1) c.in_ok-put_transition-in-Element.ensures.rest

pub loop-node-preserved : goal.loop-node-preserved
loop-node-preserved t c =
    let section : is_section c.in-Element.tag ≡ false = sym c.is_section.ensures ∙ c.if-is_section.false in
    let transition : is_transition c.in-Element.tag ≡ false = sym c.is_transition.ensures ∙ c.if-is_transition.false in
    let keeps : keeps_place c.in-Some.node ≡ true = rw (c.in-Element.is, section, transition) refl in
    placing_more c.args.context.now c.args.ends c.args.nodes c.loop-node.left _ c.loop-node.yielded c.loop-node.next_fault _ c.loop-node.placed.items _ c.loop-node.context _ c.in-Some.node _ _
    c.loop-node.invariant c.saturating_sub-left.ensures c.fault_after-next_fault.ensures refl (own_kept _ _ _ _ _ keeps)
    (rw (c.in-Element.is, ← c.element-node.ensures) c.in_ok-push-in-Element.ensures.items) refl refl

pub returns-then-all-clause-placed : goal.returns-then-all-clause-placed
returns-then-all-clause-placed t c =
    let first = c.args.context.now.first_number in
    sym (ap (λ f. placed_in first c.args.ends (Some AtBeginning) f c.args.context.now.reports.items) c.into_list-list.ensures.forest
    ∙ all_keep first c.args.ends (Some AtBeginning) c.into_list-list.result.items c.args.context.now.reports.items
    (ap (list_all keeps_place) (sym c.deref.ensures.value) ∙ sym (all_from_yields_List keeps_place _ _ c.all.result c.all.ensures.ran (YieldsList-from_slice c.deref.result.now cc) (λ x b q k. search (rules, tests))) ∙ c.if-all.true))

pub returns-clause-placed : goal.returns-clause-placed
returns-clause-placed t c =
    let end = YieldsList-end (YieldsList-from_vec {s = c.into_iter-node-iterator.result} c.into_list-list.result.items (search rules) (search rules))
    c.loop-node.yielded c.loop-node.node-iterator c.loop-node.yielded_by c.next.result c.next.new.self c.in-None.is c.next.ensures.steps in
    placing_all c.args.context.now c.args.ends c.args.nodes c.loop-node.left c.loop-node.yielded c.loop-node.next_fault c.loop-node.placed.items c.loop-node.context c.loop-node.invariant
    (sym (map-id c.loop-node.yielded) ∙ end.0 ∙ c.into_list-list.ensures.nodes)
