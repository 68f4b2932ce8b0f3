use Rattle.std.proofs.Common.{◌≡◌, ◌+◌, ◌-◌, ◌∙◌, ap, not, false, get_or, Some, None, arith}
use Rattle.std.proofs.lemmas.List.{get_or_read}
use Rattle.rst_text.specs.Characters.{is_white}
use Rattle.rst_text.proofs.PlacesLemmas.{NoneFrom-within}
use Rattle.rst_inline.proofs.EmbeddedLemmas.{DarkTest, dark_end-by}
use Rattle.rst_inline.proofs.embedded.dark_end.Goals as goal

pub returns-then-not-is_white-clause-exact : goal.returns-then-not-is_white-clause-exact
returns-then-not-is_white-clause-exact c =
    let same = get_or_read c.args.text.now _ _ (omega arith) c.index-text-end.is 0 in
    let fails : is_white c.index-text-end.result ≡ false = cc in
    let here : is_white (get_or c.args.text.now (c.loop-end.end - 1) 0) ≡ false = cc in
    let below = c.loop-end.invariant.below in
    dark_end-by c.args.text.now c.args.place (Some c.loop-end.end) (omega arith, omega arith, ap not here, c.loop-end.invariant.none)

pub returns-clause-exact : goal.returns-clause-exact
returns-clause-exact c =
    let zero_end : c.loop-end.end ≡ 0 = omega arith in
    zero_end ∙ dark_end-by c.args.text.now c.args.place None
    (NoneFrom-within (DarkTest c.args.text.now) (c.loop-end.end + 1) (c.args.place + 1) 1 (c.args.place + 1) (omega arith) (omega arith) c.loop-end.invariant.none)
