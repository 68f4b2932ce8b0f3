use Rattle.std.proofs.Common.{◌≡◌, ◌+◌, length, map, length-drop, arith, sym, ap, ◌∙◌, rules}
use Rattle.std.specs.Str.{chars}
use Rattle.rst_markup_lines.specs.OptionMarker.{option_tail, moved, options_from, marker_of_options}
use Rattle.rst_markup_lines.specs.declared.option.OptionTail.TheVariants.{Last, Next, Wrong}
use Rattle.rst_markup_lines.proofs.OptionLemmas.{last_within, next_within}
use Rattle.rst_markup_lines.proofs.PlacedLemmas.{moved_nowhere, marker_last, marker_next, marker_wrong}
use Rattle.rst_text.proofs.LinesLemmas.{length-chars}
use Rattle.rst_markup_lines.proofs.option.option_marker.Goals as goal

pub overflow_add-result : goal.overflow_add-result
overflow_add-result c =
    let e : option_tail (chars c.loop-marker.rest.now) ≡ Last c.in-Last.marker = sym c.option_tail.ensures ∙ c.in-Last.is in
    omega (arith, c.loop-marker.invariant.within, last_within (chars c.loop-marker.rest.now) c.in-Last.marker e, length-chars c.args.text.now c.utf8.text)

pub returns-in-Last : goal.returns-in-Last
returns-in-Last c =
    let e : option_tail (chars c.loop-marker.rest.now) ≡ Last c.in-Last.marker = sym c.option_tail.ensures ∙ c.in-Last.is in
    marker_last c.loop-marker.before (chars c.loop-marker.rest.now) c.in-Last.marker _ e c.loop-marker.invariant.value

pub overflow_add-before : goal.overflow_add-before
overflow_add-before c =
    let e : option_tail (chars c.loop-marker.rest.now) ≡ Next c.in-Next.n = sym c.option_tail.ensures ∙ c.in-Next.is in
    omega (arith, c.loop-marker.invariant.within, (next_within c.in-Next.n (chars c.loop-marker.rest.now) e).1, length-chars c.args.text.now c.utf8.text)

pub loop-marker-init : goal.loop-marker-init
loop-marker-init c = record {
  text = search rules;
  value = ap marker_of_options (moved_nowhere (options_from 0 (chars c.args.text.now)));
  within = omega arith;
}

pub loop-marker-smaller : goal.loop-marker-smaller
loop-marker-smaller c =
    let e : option_tail (chars c.loop-marker.rest.now) ≡ Next c.in-Next.n = sym c.option_tail.ensures ∙ c.in-Next.is in
    let w = next_within c.in-Next.n (chars c.loop-marker.rest.now) e in
    omega (arith, w.0, w.1, ap length c.skip-rest.ensures.chars, length-drop c.in-Next.n (chars c.loop-marker.rest.now))

pub loop-marker-preserved : goal.loop-marker-preserved
loop-marker-preserved c =
    let e : option_tail (chars c.loop-marker.rest.now) ≡ Next c.in-Next.n = sym c.option_tail.ensures ∙ c.in-Next.is in
    let w = next_within c.in-Next.n (chars c.loop-marker.rest.now) e in
    record {
      text = search rules;
      value = ap (λ t. marker_of_options (map (moved (c.loop-marker.before + c.in-Next.n)) (options_from 0 t))) c.skip-rest.ensures.chars
          ∙ marker_next c.loop-marker.before c.in-Next.n (chars c.loop-marker.rest.now) _ e w.0 c.loop-marker.invariant.value;
      within = omega (arith, w.0, w.1, c.loop-marker.invariant.within, ap length c.skip-rest.ensures.chars, length-drop c.in-Next.n (chars c.loop-marker.rest.now));
    }

pub returns-in-Wrong : goal.returns-in-Wrong
returns-in-Wrong c =
    let e : option_tail (chars c.loop-marker.rest.now) ≡ Wrong = sym c.option_tail.ensures ∙ c.in-Wrong.is in
    marker_wrong c.loop-marker.before (chars c.loop-marker.rest.now) _ e c.loop-marker.invariant.value
