use Rattle.std.proofs.Common.{◌≡◌, true, ap, set, arith, sym, ◌∙◌}
use Rattle.std.specs.List.{insert}
use Rattle.rst_tree.specs.Attributes.{are_keys_in_order}
use Rattle.rst_tree.proofs.Attributes.{set_there, put_there, are_keys_in_order-with_attr}
use Rattle.rst_tree.proofs.attrs.Attrs.set.Goals as goal

pub returns-then-is_at : goal.returns-then-is_at
returns-then-is_at c =
    let e = c.as_slice-attrs.ensures.value ∙ c.self.view_is in
    rw (c.new-attr.ensures, c.place_of-place.ensures.place, e, c.self.view_is) (set_there c.args.key c.args.value c.args.self.now (rw (c.place_of-place.ensures.place, e) at (sym c.is_at.ensures ∙ c.if-is_at.true)))

pub insert-requires : goal.insert-requires
insert-requires c =
    omega (arith, c.place_of-place.ensures.within, c.as_slice-attrs.ensures.len, c.make_room.ensures.len)

pub returns : goal.returns
returns c =
    let e = c.as_slice-attrs.ensures.value ∙ c.self.view_is in
    c.in_ok-insert.ensures.items ∙
    rw (c.new-attr.ensures, c.make_room.ensures.items, c.place_of-place.ensures.place, e, c.self.view_is) (put_there c.args.key c.args.value c.args.self.now (rw (c.place_of-place.ensures.place, e) at (sym c.is_at.ensures ∙ c.if-is_at.false)))

pub invariant_of-self : goal.invariant_of-self
invariant_of-self c =
    let e = c.as_slice-attrs.ensures.value ∙ c.self.view_is in
    let there = set_there c.args.key c.args.value c.args.self.now (rw (c.place_of-place.ensures.place, e) at (sym c.is_at.ensures ∙ c.if-is_at.true)) in
    let ordered : are_keys_in_order (set c.self.inside.list.items c.place_of-place.result c.new-attr.result) ≡ true =
    rw (c.new-attr.ensures, c.place_of-place.ensures.place, e, c.self.view_is, there) (are_keys_in_order-with_attr c.args.key c.args.value c.args.self.now (rw c.self.view_is at c.self.invariant)) in
    ordered

pub invariant_of-self-2 : goal.invariant_of-self-2
invariant_of-self-2 c =
    let e = c.as_slice-attrs.ensures.value ∙ c.self.view_is in
    let there = put_there c.args.key c.args.value c.args.self.now (rw (c.place_of-place.ensures.place, e) at (sym c.is_at.ensures ∙ c.if-is_at.false)) in
    let ordered : are_keys_in_order (insert c.make_room.new.list.items c.place_of-place.result c.new-attr.result) ≡ true =
    rw (c.new-attr.ensures, c.make_room.ensures.items, c.place_of-place.ensures.place, e, c.self.view_is, there) (are_keys_in_order-with_attr c.args.key c.args.value c.args.self.now (rw c.self.view_is at c.self.invariant)) in
    ap are_keys_in_order c.in_ok-insert.ensures.items ∙ ordered
