use Rattle.std.proofs.Common.{rules, arith, ◌≡◌, ◌+◌, ◌≤◌, ap, refl, sym, ◌∙◌, true}
use Rattle.rst_tree.proofs.Rewrites.{Same-child}
use Rattle.rst_tree.specs.Forest.{height}
use Rattle.rst_tree.specs.Nodes.{node_height}
use Rattle.rst_tree.specs.declared.node.Node.TheVariants.{Text}
use Rattle.rst_transform_messages.proofs.Showing.{Sifting-init, Sifting-more, Sifting-some, Sifting-whole, element_becomes, low_becomes, text_becomes, unexplained_becomes}
use Rattle.rst_tree.proofs.PlainNodes.{nothing_changed}
use Rattle.rst_transform_messages.specs.Filtered.{filtered}
use Rattle.rst_transform_messages.specs.Messages.{is_number_marked}
use Rattle.rst_transform_messages.proofs.filter.+filter_in.Goals as goal

pub loop-i-init : goal.loop-i-init
loop-i-init t c = Sifting-init _ _ _

pub loop-i-preserved-then-not-may_stay : goal.loop-i-preserved-then-not-may_stay
loop-i-preserved-then-not-may_stay t c =
    Sifting-more c.args.report (is_number_marked c.args.reported.now) _ c.loop-i.nodes c.loop-i.leaves true c.loop-i.i c.get_mut-node.result.now _ c.loop-i.invariant
    (omega (arith, c.loop-i.invariant.same.same_len, c.len-i-end.ensures)) c.get_mut-node.ensures.value (low_becomes c.args.report (is_number_marked c.args.reported.now) c.get_mut-node.result.now (sym c.may_stay.ensures ∙ c.if-not-may_stay.true)) (λ e. cc)

pub loop-i-preserved-then-is_unexplained : goal.loop-i-preserved-then-is_unexplained
loop-i-preserved-then-is_unexplained t c =
    Sifting-more c.args.report (is_number_marked c.args.reported.now) _ c.loop-i.nodes c.loop-i.leaves c.loop-i.leaves c.loop-i.i c.get_mut-node.result.now (Text c.in_ok-text.text) c.loop-i.invariant
    (omega (arith, c.loop-i.invariant.same.same_len, c.len-i-end.ensures)) c.get_mut-node.ensures.value
    (unexplained_becomes c.args.report (is_number_marked c.args.reported.now) c.get_mut-node.result.now c.in_ok-text.text (sym c.may_stay.ensures ∙ c.if-not-may_stay.false) (sym c.is_unexplained.ensures ∙ c.if-is_unexplained.true) c.in_ok-text.ensures)
    (λ e. (e, refl))

pub loop-i-preserved-in-Text : goal.loop-i-preserved-in-Text
loop-i-preserved-in-Text t c =
    Sifting-more c.args.report (is_number_marked c.args.reported.now) _ c.loop-i.nodes c.loop-i.leaves c.loop-i.leaves c.loop-i.i c.get_mut-node.result.now _ c.loop-i.invariant
    (omega (arith, c.loop-i.invariant.same.same_len, c.len-i-end.ensures)) c.get_mut-node.ensures.value (text_becomes c.args.report (is_number_marked c.args.reported.now) c.get_mut-node.result.now c.in-Text.field-0 c.in-Text.is)
    (λ e. (e, sym c.may_stay.ensures ∙ c.if-not-may_stay.false))

pub loop-i-preserved-then-are_plain : goal.loop-i-preserved-then-are_plain
loop-i-preserved-then-are_plain t c =
    let same = nothing_changed (filtered c.args.report (is_number_marked c.args.reported.now)) refl (λ t. refl) c.in-Element.children (sym c.are_plain.ensures ∙ c.if-are_plain.true) in
    let stays = sym c.may_stay.ensures ∙ c.if-not-may_stay.false in
    Sifting-more c.args.report (is_number_marked c.args.reported.now) _ c.loop-i.nodes c.loop-i.leaves c.loop-i.leaves c.loop-i.i c.get_mut-node.result.now _ c.loop-i.invariant
    (omega (arith, c.loop-i.invariant.same.same_len, c.len-i-end.ensures)) c.get_mut-node.ensures.value
    (element_becomes c.args.report (is_number_marked c.args.reported.now) c.get_mut-node.result.now c.in-Element.tag c.in-Element.attrs c.in-Element.children c.in-Element.children c.in-Element.line c.in-Element.is stays
    (sym c.is_unexplained.ensures ∙ c.if-is_unexplained.false) (sym same)) (λ e. (e, rw (c.in-Element.is) at stays))

pub filter_in-requires : goal.filter_in-requires
filter_in-requires t c =
    let m : node_height c.get_mut-node.result.now ≡ height c.in-Element.children + 1 = ap node_height c.in-Element.is in
    let k : node_height c.get_mut-node.result.now ≤ height c.args.nodes.now =
    Same-child _ c.loop-i.nodes c.loop-i.i c.get_mut-node.result.now c.loop-i.invariant.same (omega (arith, c.loop-i.invariant.same.same_len, c.len-i-end.ensures)) c.get_mut-node.ensures.value in
    let h : height c.in-Element.children + 1 ≤ height c.args.nodes.now = omega (arith, m, k) in
    search (rules, h)

pub loop-i-preserved : goal.loop-i-preserved
loop-i-preserved t c =
    let stays = sym c.may_stay.ensures ∙ c.if-not-may_stay.false in
    Sifting-more c.args.report (is_number_marked c.args.reported.now) _ c.loop-i.nodes c.loop-i.leaves c.loop-i.leaves c.loop-i.i c.get_mut-node.result.now _ c.loop-i.invariant
    (omega (arith, c.loop-i.invariant.same.same_len, c.len-i-end.ensures)) c.get_mut-node.ensures.value
    (element_becomes c.args.report (is_number_marked c.args.reported.now) c.get_mut-node.result.now c.in-Element.tag c.in-Element.attrs c.in-Element.children c.filter_in.new.nodes c.in-Element.line c.in-Element.is stays
    (sym c.is_unexplained.ensures ∙ c.if-is_unexplained.false) c.in_ok-filter_in-in-Element.ensures) (λ e. (e, rw (c.in-Element.is) at stays))

pub returns-then-leaves : goal.returns-then-leaves
returns-then-leaves t c =
    Sifting-some c.args.report (is_number_marked c.args.reported.now) _ c.loop-i.nodes _ c.loop-i.leaves c.loop-i.i c.loop-i.invariant (omega (arith, c.loop-i.invariant.same.same_len, c.len-i-end.ensures)) (search rules)

pub returns-else-leaves : goal.returns-else-leaves
returns-else-leaves t c =
    Sifting-whole c.args.report (is_number_marked c.args.reported.now) _ c.loop-i.nodes c.loop-i.leaves c.loop-i.i c.loop-i.invariant (omega (arith, c.loop-i.invariant.same.same_len, c.len-i-end.ensures)) c.if-leaves.false
