use Rattle.std.proofs.Common.{◌≡◌, ◌+◌, [], ◌∷◌, ◌++◌, None, Some, length, map, length-drop, arith, sym, ap, ◌∙◌, rules}
use Rattle.std.specs.Str.{chars}
use Rattle.rst_markup_lines.specs.OptionMarker.{option_at, option_tail, moved, options_from}
use Rattle.rst_markup_lines.specs.Options.{listed, option_in}
use Rattle.rst_markup_lines.specs.declared.option.OptionTail.TheVariants.{Last, Next, Wrong}
use Rattle.rst_markup_lines.proofs.OptionLemmas.{width_within, next_within}
use Rattle.rst_markup_lines.proofs.PlacedLemmas.{moved_nowhere}
use Rattle.rst_markup_lines.proofs.ListedLemmas.{listed_none, listed_wrong, listed_last, listed_next, listed_all_within}
use Rattle.rst_text.proofs.LinesLemmas.{length-chars}
use Rattle.rst_markup_lines.proofs.options.listed_options.Goals as goal

pub loop-option-init : goal.loop-option-init
loop-option-init c = record {
  text = search rules;
  value = rw (c.new-options.ensures.items) (ap listed (moved_nowhere (options_from 0 (chars c.args.text.now))));
  within = omega arith;
}

pub returns-in-Wrong : goal.returns-in-Wrong
returns-in-Wrong c =
    let e : option_tail (chars c.loop-option.rest.now) ≡ Wrong = sym c.option_tail.ensures ∙ c.in-Wrong.is in
    let f : option_at (chars c.loop-option.rest.now) ≡ Some c.in-Some.option = sym c.option_at.ensures.value ∙ c.in-Some.is in
    let all = listed_wrong c.loop-option.before (chars c.loop-option.rest.now) c.in-Some.option c.loop-option.options.items _ e f c.loop-option.invariant.value in
    record { options = all; within = listed_all_within (chars c.args.text.now) c.loop-option.options.items all }

pub option_in-requires : goal.option_in-requires
option_in-requires c =
    let e : option_at (chars c.loop-option.rest.now) ≡ Some c.in-Some.option = sym c.option_at.ensures.value ∙ c.in-Some.is in
    omega (arith, (width_within (chars c.loop-option.rest.now) c.in-Some.option e).1, c.loop-option.invariant.within, length-chars c.args.text.now c.utf8.text)

pub returns-in-Last-clause-options : goal.returns-in-Last-clause-options
returns-in-Last-clause-options c =
    let e : option_tail (chars c.loop-option.rest.now) ≡ Last c.in-Last.field-0 = sym c.option_tail.ensures ∙ c.in-Last.is in
    let f : option_at (chars c.loop-option.rest.now) ≡ Some c.in-Some.option = sym c.option_at.ensures.value ∙ c.in-Some.is in
    let items : c.push.new.self.items ≡ c.loop-option.options.items ++ c.option_in.result ∷ [] = c.in_ok-push-in-Last.ensures.items in
    items ∙ ap (λ o. c.loop-option.options.items ++ o ∷ []) c.option_in.ensures
    ∙ listed_last c.loop-option.before (chars c.loop-option.rest.now) c.in-Last.field-0 c.in-Some.option c.loop-option.options.items _ e f c.loop-option.invariant.value

pub returns-in-Last-clause-within : goal.returns-in-Last-clause-within
returns-in-Last-clause-within c = listed_all_within (chars c.args.text.now) c.push.new.self.items (returns-in-Last-clause-options c)

pub option_in-requires-in-Next : goal.option_in-requires-in-Next
option_in-requires-in-Next c =
    let e : option_at (chars c.loop-option.rest.now) ≡ Some c.in-Some.option = sym c.option_at.ensures.value ∙ c.in-Some.is in
    omega (arith, (width_within (chars c.loop-option.rest.now) c.in-Some.option e).1, c.loop-option.invariant.within, length-chars c.args.text.now c.utf8.text)

pub overflow_add-before : goal.overflow_add-before
overflow_add-before c =
    let e : option_tail (chars c.loop-option.rest.now) ≡ Next c.in-Next.n = sym c.option_tail.ensures ∙ c.in-Next.is in
    omega (arith, c.loop-option.invariant.within, (next_within c.in-Next.n (chars c.loop-option.rest.now) e).1, length-chars c.args.text.now c.utf8.text)

pub loop-option-smaller : goal.loop-option-smaller
loop-option-smaller c =
    let e : option_tail (chars c.loop-option.rest.now) ≡ Next c.in-Next.n = sym c.option_tail.ensures ∙ c.in-Next.is in
    let w = next_within c.in-Next.n (chars c.loop-option.rest.now) e in
    omega (arith, w.0, w.1, ap length c.skip-rest.ensures.chars, length-drop c.in-Next.n (chars c.loop-option.rest.now))

pub loop-option-preserved : goal.loop-option-preserved
loop-option-preserved c =
    let e : option_tail (chars c.loop-option.rest.now) ≡ Next c.in-Next.n = sym c.option_tail.ensures ∙ c.in-Next.is in
    let f : option_at (chars c.loop-option.rest.now) ≡ Some c.in-Some.option = sym c.option_at.ensures.value ∙ c.in-Some.is in
    let w = next_within c.in-Next.n (chars c.loop-option.rest.now) e in
    let items : c.push-in-Next.new.self.items ≡ c.loop-option.options.items ++ c.option_in-in-Next.result ∷ [] = c.in_ok-push-in-Next.ensures.items in
    record {
      text = search rules;
      value = ap (λ os. os ++ listed (map (moved (c.loop-option.before + c.in-Next.n)) (options_from 0 (chars c.skip-rest.result.now)))) (items ∙ ap (λ o. c.loop-option.options.items ++ o ∷ []) c.option_in-in-Next.ensures)
          ∙ ap (λ t. (c.loop-option.options.items ++ option_in c.loop-option.before c.in-Some.option ∷ []) ++ listed (map (moved (c.loop-option.before + c.in-Next.n)) (options_from 0 t))) c.skip-rest.ensures.chars
          ∙ listed_next c.loop-option.before c.in-Next.n (chars c.loop-option.rest.now) c.in-Some.option c.loop-option.options.items _ e f w.0 c.loop-option.invariant.value;
      within = omega (arith, w.0, w.1, c.loop-option.invariant.within, ap length c.skip-rest.ensures.chars, length-drop c.in-Next.n (chars c.loop-option.rest.now));
    }

pub returns-clause-options : goal.returns-clause-options
returns-clause-options c =
    let e : option_at (chars c.loop-option.rest.now) ≡ None = sym c.option_at.ensures.value ∙ c.in_default.is in
    listed_none c.loop-option.before (chars c.loop-option.rest.now) c.loop-option.options.items _ e c.loop-option.invariant.value

pub returns-clause-within : goal.returns-clause-within
returns-clause-within c = listed_all_within (chars c.args.text.now) c.loop-option.options.items (returns-clause-options c)
