use Rattle.std.proofs.Common.{◌≡◌, ◌+◌, ◌≤◌, rules, arith, tests, sym, subst, ap, ◌∙◌}
use Rattle.std.specs.List.{list_any}
use Rattle.std.proofs.lemmas.Iterator.{YieldsList-from_slice}
use Rattle.std.proofs.lemmas.Iterator.Search.{any_from_yields_List}
use Rattle.rst_tree.specs.Forest.{height}
use Rattle.rst_tree.specs.Nodes.{node_height, nodes_of}
use Rattle.rst_tree_index.specs.Kinds.{is_substitution_reference_node}
use Rattle.rst_tree.proofs.Changes.{nodes_of-forest_of}
use Rattle.rst_tree.proofs.Rewrites.{Same-child}
use Rattle.rst_transform_work.specs.Known.{Makes}
use Rattle.rst_transform_substitutions.specs.Definitions.{found_by, known_place}
use Rattle.rst_transform_substitutions.specs.Expanded.{expanded_in, within_element}
use Rattle.rst_transform_substitutions.proofs.NoReferences.{plain_stays}
use Rattle.rst_transform_substitutions.proofs.Replacing.{element_holds, none_opened, reference_gives, text_stays, Replacing-all, Replacing-init, Replacing-more}
use Rattle.rst_transform_substitutions.proofs.expand.+expand_in.Goals as goal

pub loop-i-init : goal.loop-i-init
loop-i-init t c = Replacing-init (found_by c.args.definitions.now) (known_place c.args.definitions.now) c.args.within c.args.nodes.now c.args.context.now

pub loop-i-preserved-in-Text : goal.loop-i-preserved-in-Text
loop-i-preserved-in-Text t c =
    Replacing-more (found_by c.args.definitions.now) (known_place c.args.definitions.now) c.args.within c.args.nodes.now c.args.context.now c.loop-i.context c.loop-i.context c.loop-i.nodes c.loop-i.i c.get_mut.result.now c.get_mut.result.now c.loop-i.invariant
    (omega (arith, c.loop-i.invariant.same.same_len, c.len-i-end.ensures)) c.get_mut.ensures.value (text_stays (found_by c.args.definitions.now) (known_place c.args.definitions.now) c.args.within c.loop-i.context c.get_mut.result.now c.in-Text.field-0 c.in-Text.is)

pub loop-i-preserved-then-is_substitution_reference : goal.loop-i-preserved-then-is_substitution_reference
loop-i-preserved-then-is_substitution_reference t c =
    Replacing-more (found_by c.args.definitions.now) (known_place c.args.definitions.now) c.args.within c.args.nodes.now c.args.context.now c.loop-i.context c.replaced.new.context c.loop-i.nodes c.loop-i.i c.get_mut.result.now _ c.loop-i.invariant
    (omega (arith, c.loop-i.invariant.same.same_len, c.len-i-end.ensures)) c.get_mut.ensures.value
    (reference_gives (found_by c.args.definitions.now) (known_place c.args.definitions.now) c.args.within c.loop-i.context c.replaced.new.context c.get_mut.result.now c.in-Element.tag c.in-Element.attrs c.replaced.new.attrs c.in-Element.children c.in_ok-children-in-Element.field-0 c.in-Element.line
    c.in-Element.is (sym c.is_substitution_reference.ensures ∙ c.if-is_substitution_reference.true) c.in_ok-children-in-Element.ensures)

pub loop-i-preserved-then-are_plain : goal.loop-i-preserved-then-are_plain
loop-i-preserved-then-are_plain t c =
    let found = found_by c.args.definitions.now in
    let place = known_place c.args.definitions.now in
    let stay = plain_stays found place (within_element place c.in-Element.tag c.in-Element.attrs c.args.within) c.in-Element.children c.loop-i.context (sym c.are_plain.ensures ∙ c.if-are_plain.true) in
    Replacing-more found place c.args.within c.args.nodes.now c.args.context.now c.loop-i.context c.loop-i.context c.loop-i.nodes c.loop-i.i c.get_mut.result.now _ c.loop-i.invariant
    (omega (arith, c.loop-i.invariant.same.same_len, c.len-i-end.ensures)) c.get_mut.ensures.value
    (element_holds found place c.args.within c.loop-i.context c.loop-i.context c.get_mut.result.now c.in-Element.tag c.in-Element.attrs c.in-Element.children c.in-Element.children c.in-Element.line
    c.in-Element.is (sym c.is_substitution_reference.ensures ∙ c.if-is_substitution_reference.false) stay)

pub expand_in-requires : goal.expand_in-requires
expand_in-requires t c =
    let m : node_height c.get_mut.result.now ≡ height c.in-Element.children + 1 = ap node_height c.in-Element.is in
    let k : node_height c.get_mut.result.now ≤ height c.args.nodes.now =
    Same-child _ c.loop-i.nodes c.loop-i.i c.get_mut.result.now c.loop-i.invariant.same (omega (arith, c.loop-i.invariant.same.same_len, c.len-i-end.ensures)) c.get_mut.ensures.value in
    let h : height c.in-Element.children + 1 ≤ height c.args.nodes.now = omega (arith, m, k) in
    search (rules, h)

pub loop-i-preserved : goal.loop-i-preserved
loop-i-preserved t c =
    Replacing-more (found_by c.args.definitions.now) (known_place c.args.definitions.now) c.args.within c.args.nodes.now c.args.context.now c.loop-i.context c.expand_in.new.context c.loop-i.nodes c.loop-i.i c.get_mut.result.now _ c.loop-i.invariant
    (omega (arith, c.loop-i.invariant.same.same_len, c.len-i-end.ensures)) c.get_mut.ensures.value
    (element_holds (found_by c.args.definitions.now) (known_place c.args.definitions.now) c.args.within c.loop-i.context c.expand_in.new.context c.get_mut.result.now c.in-Element.tag c.in-Element.attrs c.in-Element.children c.expand_in.new.nodes c.in-Element.line
    c.in-Element.is (sym c.is_substitution_reference.ensures ∙ c.if-is_substitution_reference.false) (rw (c.within_element-within.ensures) at c.in_ok-expand_in-in-Element.ensures))

-- all references are opened
pub returns-in_ok-open_references : goal.returns-in_ok-open_references
returns-in_ok-open_references t c =
    subst (λ xs. Makes (expanded_in (found_by c.args.definitions.now) (known_place c.args.definitions.now) c.args.within c.args.nodes.now) c.args.context.now c.loop-i.context xs) (sym c.in_ok-open_references.ensures)
    (Replacing-all (found_by c.args.definitions.now) (known_place c.args.definitions.now) c.args.within c.args.nodes.now c.args.context.now c.loop-i.context c.loop-i.nodes c.loop-i.i c.loop-i.invariant (omega (arith, c.loop-i.invariant.same.same_len, c.len-i-end.ensures)))

-- or there are none
pub returns-else-any : goal.returns-else-any
returns-else-any t c =
    let are = ap nodes_of c.as_slice.ensures ∙ nodes_of-forest_of c.as_slice.result.now in
    let any = any_from_yields_List is_substitution_reference_node _ _ c.any.result c.any.ensures.ran (YieldsList-from_slice c.as_slice.result.now cc) (λ x b q k. search (rules, tests)) in
    let none = none_opened (nodes_of c.loop-i.nodes) (ap (list_any is_substitution_reference_node) are ∙ sym any ∙ c.if-any.false) in
    subst (λ xs. Makes (expanded_in (found_by c.args.definitions.now) (known_place c.args.definitions.now) c.args.within c.args.nodes.now) c.args.context.now c.loop-i.context xs) none
    (Replacing-all (found_by c.args.definitions.now) (known_place c.args.definitions.now) c.args.within c.args.nodes.now c.args.context.now c.loop-i.context c.loop-i.nodes c.loop-i.i c.loop-i.invariant (omega (arith, c.loop-i.invariant.same.same_len, c.len-i-end.ensures)))
