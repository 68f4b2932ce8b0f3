use Rattle.std.proofs.Common.{◌≡◌, ◌<◌, ◌&&◌, true, false, not, length, drop, Some, None, arith, rules, refl, ap, sym, ◌∙◌}
use Rattle.std.specs.Str.{chars}
use Rattle.std.proofs.lemmas.List.{drop-drop}
use Rattle.rst_text.proofs.PlacesLemmas.{NoneFrom-more}
use Rattle.rst_text.specs.Escapes.{is_escaped}
use Rattle.rst_markup_lines.specs.Closing.{is_closing, closes}
use Rattle.rst_markup_lines.proofs.ClosingLemmas.{closes-here, escaped-next, dark-next, closed-is, past-end}
use Rattle.rst_markup_lines.proofs.SimpleNames.{inside}
use Rattle.rst_markup_lines.proofs.closing.closed.Goals as goal

pub loop-letter-init : goal.loop-letter-init
unfolding is_escaped
loop-letter-init c = record { text = search rules; place = refl; escaped = refl; dark = refl; none = λ k low high. absurd (omega arith); within = omega arith }

pub loop-letter-smaller : goal.loop-letter-smaller
loop-letter-smaller c = c.after_first-following.ensures.shorter (search rules)

pub loop-letter-preserved : goal.loop-letter-preserved
loop-letter-preserved c =
    let short : length c.after_first-following.result.now < length c.loop-letter.rest.now = c.after_first-following.ensures.shorter (search rules) in
    let at = c.loop-letter.invariant.place in
    let here = closes-here c.args.closing (chars c.args.text.now) (chars c.loop-letter.rest.now) c.in-Some.letter c.loop-letter.n c.loop-letter.escaped c.loop-letter.dark at (cc) c.loop-letter.invariant.escaped c.loop-letter.invariant.dark in
    let fails : (not c.loop-letter.escaped && is_closing c.args.closing c.loop-letter.dark c.in-Some.letter (drop 1 (chars c.loop-letter.rest.now))) ≡ false = rw c.after_first-following.ensures.value at (sym c.closes.ensures ∙ c.if-closes.false) in
    record {
      text = search rules;
      place = sym (drop-drop 1 c.loop-letter.n (chars c.args.text.now)) ∙ ap (drop 1) at ∙ sym c.after_first-following.ensures.value;
      escaped = c.escapes-escaped.ensures ∙ escaped-next (chars c.args.text.now) (chars c.loop-letter.rest.now) c.in-Some.letter c.loop-letter.n c.loop-letter.escaped at (cc) c.loop-letter.invariant.escaped;
      dark = ap not c.is_white-dark.ensures ∙ dark-next (chars c.args.text.now) (chars c.loop-letter.rest.now) c.in-Some.letter c.loop-letter.n at (cc);
      none = NoneFrom-more (closes c.args.closing (chars c.args.text.now)) 0 c.loop-letter.n c.loop-letter.invariant.none (λ low. here ∙ fails);
      within = omega arith;
    }

pub returns-then-closes-clause-value : goal.returns-then-closes-clause-value
returns-then-closes-clause-value c =
    let at = c.loop-letter.invariant.place in
    let here = closes-here c.args.closing (chars c.args.text.now) (chars c.loop-letter.rest.now) c.in-Some.letter c.loop-letter.n c.loop-letter.escaped c.loop-letter.dark at (cc) c.loop-letter.invariant.escaped c.loop-letter.invariant.dark in
    let holds : (not c.loop-letter.escaped && is_closing c.args.closing c.loop-letter.dark c.in-Some.letter (drop 1 (chars c.loop-letter.rest.now))) ≡ true = rw c.after_first-following.ensures.value at (sym c.closes.ensures ∙ c.if-closes.true) in
    closed-is c.args.closing (chars c.args.text.now) (Some c.loop-letter.n) (omega arith, inside (chars c.args.text.now) (chars c.loop-letter.rest.now) c.in-Some.letter c.loop-letter.n at (cc), here ∙ holds, c.loop-letter.invariant.none)

pub returns-clause-value : goal.returns-clause-value
returns-clause-value c =
    let past = past-end (chars c.args.text.now) (chars c.loop-letter.rest.now) c.loop-letter.n c.loop-letter.invariant.place (cc) in
    closed-is c.args.closing (chars c.args.text.now) None (λ k low high. c.loop-letter.invariant.none k low (omega (arith, past)))
