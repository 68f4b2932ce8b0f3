use Rattle.std.proofs.Common.{◌≡◌, ◌<◌, length, arith, ap, ◌∙◌, Some}
use Rattle.rst_tree.specs.Attributes.{are_keys_in_order, place_named, without_key}
use Rattle.rst_tree.proofs.Attributes.{named_value, named_rest, unnamed_value, unnamed_rest, are_keys_in_order-without_key}
use Rattle.rst_tree.proofs.attrs.Attrs.remove.Goals as goal

pub returns-then-place-len-clause-value : goal.returns-then-place-len-clause-value
returns-then-place-len-clause-value c =
    let p : c.place_named-place.result ≡ place_named c.args.key c.args.self.now = c.place_named-place.ensures ∙ ap (place_named c.args.key) (c.as_slice.ensures.value ∙ c.self.view_is) in
    let n = ap length c.self.view_is in
    let h : place_named c.args.key c.args.self.now < length c.args.self.now = omega (arith, p, n, c.if-place-len.true, c.len.ensures, c.self.inside.list.ok.0) in
    ap Some c.into_value.ensures ∙ named_value c.args.key c.args.self.now c.remove-attr.result h (rw (p, c.self.view_is) at c.remove-attr.ensures.value)

pub returns-then-place-len-clause-rest : goal.returns-then-place-len-clause-rest
returns-then-place-len-clause-rest c =
    let p : c.place_named-place.result ≡ place_named c.args.key c.args.self.now = c.place_named-place.ensures ∙ ap (place_named c.args.key) (c.as_slice.ensures.value ∙ c.self.view_is) in
    c.remove-attr.ensures.items ∙ (rw (p, c.self.view_is) (named_rest c.args.key c.args.self.now))

pub returns-clause-value : goal.returns-clause-value
returns-clause-value c =
    let p : c.place_named-place.result ≡ place_named c.args.key c.args.self.now = c.place_named-place.ensures ∙ ap (place_named c.args.key) (c.as_slice.ensures.value ∙ c.self.view_is) in
    let n = ap length c.self.view_is in
    unnamed_value c.args.key c.args.self.now (omega (arith, p, n, c.if-place-len.false, c.len.ensures, c.self.inside.list.ok.0))

pub returns-clause-rest : goal.returns-clause-rest
returns-clause-rest c =
    let p : c.place_named-place.result ≡ place_named c.args.key c.args.self.now = c.place_named-place.ensures ∙ ap (place_named c.args.key) (c.as_slice.ensures.value ∙ c.self.view_is) in
    let n = ap length c.self.view_is in
    unnamed_rest c.args.key c.args.self.now (omega (arith, p, n, c.if-place-len.false, c.len.ensures, c.self.inside.list.ok.0))

pub invariant_of-self : goal.invariant_of-self
invariant_of-self c =
    let p : c.place_named-place.result ≡ place_named c.args.key c.args.self.now = c.place_named-place.ensures ∙ ap (place_named c.args.key) (c.as_slice.ensures.value ∙ c.self.view_is) in
    let rest : c.remove-attr.new.self.items ≡ without_key c.args.key c.args.self.now = c.remove-attr.ensures.items ∙ (rw (p, c.self.view_is) (named_rest c.args.key c.args.self.now)) in
    ap are_keys_in_order rest ∙ are_keys_in_order-without_key c.args.key c.args.self.now (rw c.self.view_is at c.self.invariant)
