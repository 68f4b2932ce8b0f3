use Rattle.std.proofs.Common.{◌≡◌, true, false, sym, ◌∙◌, arith, ap, length, subst}
use Rattle.std.proofs.lemmas.List.{get_or_read}
use Rattle.rst_text.specs.Places.{IsLast}
use Rattle.rst_text.proofs.PlacesLemmas.{IsLast-new, IsLast-one}
use Rattle.rst_text.specs.Escapes.{escapes}
use Rattle.rst_text.proofs.EscapeLemmas.{is_escaped-start, is_escaped-more}
use Rattle.rst_inline.specs.Embedded.{opens_angle}
use Rattle.rst_inline.proofs.EmbeddedLemmas.{opens_angle-is, last_angle-is, last-below}
use Rattle.rst_inline.proofs.embedded.last_angle.Goals as goal

pub loop-place-init : goal.loop-place-init
loop-place-init c = record { escaped = sym (is_escaped-start c.args.text.now 0); last = λ k above below. absurd (omega arith) }

pub loop-place-preserved-then-opens : goal.loop-place-preserved-then-opens
loop-place-preserved-then-opens c =
    let t = c.args.text.now in
    let read = get_or_read t _ _ (omega arith) c.index-text-place.is 0 in
    let next = is_escaped-more t 0 c.loop-place.place (omega arith) in
    let here : opens_angle t c.loop-place.place ≡ true = opens_angle-is t c.loop-place.place c.index-text-place.result c.loop-place.escaped (omega arith) (sym read) c.loop-place.invariant.escaped ∙ c.if-opens.true in
    record {
      escaped = c.escapes-escaped.ensures ∙ ap (λ x. escapes x c.loop-place.escaped) read ∙ ap (escapes _) c.loop-place.invariant.escaped ∙ sym next;
      last = IsLast-new (opens_angle t) 0 c.loop-place.place (omega arith) here;
    }

pub loop-place-preserved : goal.loop-place-preserved
loop-place-preserved c =
    let t = c.args.text.now in
    let read = get_or_read t _ _ (omega arith) c.index-text-place.is 0 in
    let next = is_escaped-more t 0 c.loop-place.place (omega arith) in
    let here : opens_angle t c.loop-place.place ≡ false = opens_angle-is t c.loop-place.place c.index-text-place.result c.loop-place.escaped (omega arith) (sym read) c.loop-place.invariant.escaped ∙ c.if-opens.false in
    record {
      escaped = c.escapes-escaped.ensures ∙ ap (λ x. escapes x c.loop-place.escaped) read ∙ ap (escapes _) c.loop-place.invariant.escaped ∙ sym next;
      last = IsLast-one (opens_angle t) 0 c.loop-place.place c.loop-place.found here c.loop-place.invariant.last;
    }

pub returns-clause-exact : goal.returns-clause-exact
returns-clause-exact c =
    let end : c.loop-place.place ≡ length c.args.text.now = omega arith in
    last_angle-is c.args.text.now c.loop-place.found (subst (λ n. IsLast (opens_angle c.args.text.now) 0 n c.loop-place.found) end c.loop-place.invariant.last)

pub returns-clause-below : goal.returns-clause-below
returns-clause-below c =
    let end : c.loop-place.place ≡ length c.args.text.now = omega arith in
    last-below (opens_angle c.args.text.now) 0 (length c.args.text.now) c.loop-place.found (subst (λ n. IsLast (opens_angle c.args.text.now) 0 n c.loop-place.found) end c.loop-place.invariant.last)
