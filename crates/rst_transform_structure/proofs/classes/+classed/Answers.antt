use Rattle.std.proofs.Common.{◌≡◌, ◌+◌, ◌≤◌, [], true, false, rules, refl, ap, sym, ◌∙◌}
use Rattle.std.specs.Prelude.{◌&&◌, ◌==◌}
use Rattle.std.proofs.lemmas.List.{map-id}
use Rattle.std.proofs.lemmas.Iterator.Consumers.{YieldsList-turn, YieldsList-end}
use Rattle.std.proofs.lemmas.Iterator.Adapters.{YieldsList-from_vec}
use Rattle.rst_tree.specs.Forest.{height}
use Rattle.rst_tree.proofs.PrintedParts.{inside_lower}
use Rattle.rst_transform_structure.specs.Classes.{classed, is_class, is_passed_over}
use Rattle.rst_transform_structure.proofs.Classing.{classing_all, classing_more, one_passed, one_place, one_taker, one_text, own_passed, own_place, own_taker, own_text}
use Rattle.rst_transform_structure.proofs.classes.+classed.Goals as goal

pub classed-requires : goal.classed-requires
classed-requires t c =
    let turn = YieldsList-turn (YieldsList-from_vec {s = c.into_iter-node-iterator.result} c.into_list-list.result.items (search rules) (search rules))
    c.loop-node.yielded c.loop-node.node-iterator c.loop-node.yielded_by c.next.result c.next.new.self c.in-Some.node c.in-Some.is c.next.ensures.steps in
    let h : height c.in-Element.children + 1 ≤ height c.args.nodes =
    inside_lower c.in-Some.node c.in-Element.tag c.in-Element.attrs c.in-Element.children c.args.nodes c.in-Element.line c.into_list-list.result.items _
    c.in-Element.is c.into_list-list.ensures.forest turn.1 turn.0 in
    search (rules, h)

pub loop-node-preserved-in-Text : goal.loop-node-preserved-in-Text
loop-node-preserved-in-Text t c =
    classing_more c.args.ends c.args.left.now c.args.nodes c.loop-node.takers _ c.loop-node.yielded c.loop-node.left _ c.loop-node.done.items _ c.in-Some.node _ _ c.loop-node.invariant
    (λ rest all. all ∙ one_text c.in-Some.node _ c.in-Text.is rest) refl (own_text c.in-Some.node _ c.in-Text.is _ _) (rw c.in-Text.is c.in_ok-push-in-Text.ensures.items) refl

pub loop-node-preserved-then-is_class : goal.loop-node-preserved-then-is_class
loop-node-preserved-then-is_class t c =
    let here : is_class c.in-Element.tag ≡ true = sym c.is_class.ensures ∙ c.if-is_class.true in
    classing_more c.args.ends c.args.left.now c.args.nodes c.loop-node.takers _ c.loop-node.yielded c.loop-node.left _ c.loop-node.done.items _ c.in-Some.node (c.args.ends && c.loop-node.takers == 0) _ c.loop-node.invariant
    (λ rest all. all ∙ one_place true [] c.in-Some.node _ _ _ _ c.in-Element.is here rest) refl (own_place _ _ _ _ _ _ _ c.in-Element.is here) c.in_ok-put_message-in-Element.ensures c.in_ok-add_words-in-Element.ensures

pub loop-node-preserved-then-is_passed_over : goal.loop-node-preserved-then-is_passed_over
loop-node-preserved-then-is_passed_over t c =
    let other : is_class c.in-Element.tag ≡ false = sym c.is_class.ensures ∙ c.if-is_class.false in
    let passed : is_passed_over c.in-Element.tag ≡ true = sym c.is_passed_over.ensures ∙ c.if-is_passed_over.true in
    classing_more c.args.ends c.args.left.now c.args.nodes c.loop-node.takers _ c.loop-node.yielded c.loop-node.left _ c.loop-node.done.items _ c.in-Some.node (c.args.ends && c.loop-node.takers == 0) _ c.loop-node.invariant
    (λ rest all. all ∙ one_passed true [] c.in-Some.node _ _ _ _ c.in-Element.is passed rest) refl (own_passed _ _ _ _ _ _ _ c.in-Element.is other passed)
    (rw (c.in-Element.is, ← c.element.ensures) c.in_ok-push-in-Element.ensures.items) refl

pub loop-node-preserved : goal.loop-node-preserved
loop-node-preserved t c =
    let other : is_class c.in-Element.tag ≡ false = sym c.is_class.ensures ∙ c.if-is_class.false in
    let taker : is_passed_over c.in-Element.tag ≡ false = sym c.is_passed_over.ensures ∙ c.if-is_passed_over.false in
    let last = c.args.ends && c.saturating_sub-takers.result == 0 in
    let inside = c.in_ok-inner-in-Element.ensures ∙ ap (λ ws. classed last ws c.in-Element.children) c.in_ok-take_words-in-Element.ensures.left in
    classing_more c.args.ends c.args.left.now c.args.nodes c.loop-node.takers c.saturating_sub-takers.result c.loop-node.yielded c.loop-node.left _ c.loop-node.done.items _ c.in-Some.node last _ c.loop-node.invariant
    (λ rest all. one_taker true [] c.in-Some.node _ _ _ _ c.in-Element.is c.saturating_sub-takers.result c.loop-node.takers taker c.saturating_sub-takers.ensures rest all) refl
    (own_taker _ _ _ _ _ _ _ c.in-Element.is _ _ _ other taker c.in_ok-take_words-in-Element.ensures.attrs inside)
    (rw (← c.of.ensures, ← c.element-in-Element.ensures) c.in_ok-push-in-Element-2.ensures.items) refl

pub returns : goal.returns
returns t c =
    let end = YieldsList-end (YieldsList-from_vec {s = c.into_iter-node-iterator.result} c.into_list-list.result.items (search rules) (search rules))
    c.loop-node.yielded c.loop-node.node-iterator c.loop-node.yielded_by c.next.result c.next.new.self c.in-None.is c.next.ensures.steps in
    classing_all c.args.ends c.args.left.now c.args.nodes c.loop-node.takers c.loop-node.yielded c.loop-node.left c.loop-node.done.items c.loop-node.invariant
    (sym (map-id c.loop-node.yielded) ∙ end.0 ∙ c.into_list-list.ensures.nodes)
