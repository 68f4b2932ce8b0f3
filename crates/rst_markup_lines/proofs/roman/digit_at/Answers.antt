use Rattle.std.proofs.Common.{◌≡◌, ◌∙◌, ◌-◌, ℕ, List, [], true, false, sym, ap, arith, get_or}
use Rattle.std.proofs.lemmas.List.{get_or-map}
use Rattle.rst_markup_lines.specs.Roman.{roman_digits}
use Rattle.rst_markup_lines.proofs.RomanLemmas.{digit_end, digit_step}
use Rattle.rst_markup_lines.proofs.roman.digit_at.Goals as goal

pub returns-in-Some-clause-digit : goal.returns-in-Some-clause-digit
returns-in-Some-clause-digit c =
    let ds : List (List ℕ) = roman_digits c.args.case c.args.place in
    let here : c.as_bytes.result.now ≡ get_or ds (c.loop-digit.digit - 1) [] =
    c.as_bytes.ensures.value ∙ sym (get_or-map (λ l. l.now) c.roman_digits-roman_digits.result.now (c.loop-digit.digit - 1) _ [] (omega (arith, c.loop-digit.invariant.1)))
    ∙ ap (λ ds. get_or ds (c.loop-digit.digit - 1) []) c.roman_digits-roman_digits.ensures.letters in
    ap (λ rest. (c.loop-digit.digit, rest)) c.in-Some.ensures.cases.1
    ∙ sym (c.loop-digit.invariant.0 ∙ digit_step ds c.loop-digit.digit c.args.letters.now c.as_bytes.result.now true c.loop-digit-test.true here c.in-Some.ensures.cases.0)

pub loop-digit-preserved : goal.loop-digit-preserved
loop-digit-preserved c =
    let ds : List (List ℕ) = roman_digits c.args.case c.args.place in
    let here : c.as_bytes.result.now ≡ get_or ds (c.loop-digit.digit - 1) [] =
    c.as_bytes.ensures.value ∙ sym (get_or-map (λ l. l.now) c.roman_digits-roman_digits.result.now (c.loop-digit.digit - 1) _ [] (omega (arith, c.loop-digit.invariant.1)))
    ∙ ap (λ ds. get_or ds (c.loop-digit.digit - 1) []) c.roman_digits-roman_digits.ensures.letters in (
      c.loop-digit.invariant.0 ∙ digit_step ds c.loop-digit.digit c.args.letters.now c.as_bytes.result.now false c.loop-digit-test.true here c.in_default.ensures.cases,
      omega (arith, c.loop-digit.invariant.1),
    )

pub returns-clause-digit : goal.returns-clause-digit
returns-clause-digit c = sym (c.loop-digit.invariant.0 ∙ digit_end (roman_digits c.args.case c.args.place) c.loop-digit.digit c.args.letters.now c.loop-digit-test.false)
