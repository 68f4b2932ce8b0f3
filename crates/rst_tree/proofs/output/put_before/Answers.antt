use Rattle.std.proofs.Common.{◌≡◌, ◌+◌, ◌∙◌, true, false, drop, sym, ap}
use Rattle.std.proofs.lemmas.List.{take_rest}
use Rattle.std.specs.List.{flat_map}
use Rattle.rst_tree.specs.Attributes.{is_at, places_below}
use Rattle.rst_tree.specs.Print.{attribute_text}
use Rattle.rst_tree.proofs.Sending.{Sends-as}
use Rattle.rst_tree.proofs.PrintedAttributeParts.{before_place, following_there, following_between}
use Rattle.rst_tree.proofs.output.put_before.Goals as goal

pub returns-then-is_at-clause-sent : goal.returns-then-is_at-clause-sent
returns-then-is_at-clause-sent g c = Sends-as c.put_attrs.ensures (rw c.place_of-place.ensures.place (ap (flat_map attribute_text) (before_place c.args.key c.args.attrs.now)))

pub returns-then-is_at-clause-rest : goal.returns-then-is_at-clause-rest
returns-then-is_at-clause-rest g c =
    let at : is_at c.args.key (drop (places_below c.args.key c.args.attrs.now) c.args.attrs.now) ≡ true = rw c.place_of-place.ensures.place at (sym c.is_at.ensures ∙ c.if-is_at.true) in
    take_rest c.args.attrs.now (c.place_of-place.result + 1) ∙ (rw c.place_of-place.ensures.place (following_there c.args.key c.args.attrs.now at))

pub returns-clause-sent : goal.returns-clause-sent
returns-clause-sent g c = Sends-as c.put_attrs.ensures (rw c.place_of-place.ensures.place (ap (flat_map attribute_text) (before_place c.args.key c.args.attrs.now)))

pub returns-clause-rest : goal.returns-clause-rest
returns-clause-rest g c =
    let at : is_at c.args.key (drop (places_below c.args.key c.args.attrs.now) c.args.attrs.now) ≡ false = rw c.place_of-place.ensures.place at (sym c.is_at.ensures ∙ c.if-is_at.false) in
    take_rest c.args.attrs.now c.place_of-place.result ∙ (rw c.place_of-place.ensures.place (following_between c.args.key c.args.attrs.now at))
