use Rattle.std.proofs.Common.{rules, ◌≡◌, ◌++◌, ◌∷◌, [], Bool, true, false, not, refl, sym, ap, ◌∙◌, if◌then◌else◌}
use Rattle.std.specs.Str.{chars, IsUtf8}
use Rattle.rst_markup_lines.proofs.ColonLemmas.{escapes_next, colons_last, colons_none, backslash_last, backslash_none}
use Rattle.rst_markup_lines.proofs.closing.ends_in_colons.Goals as goal

pub returns-in_default : goal.returns-in_default
returns-in_default c = sym (colons_none c.args.text.now c.utf8.text c.in_default.ensures.cases)

pub loop-fewer-init : goal.loop-fewer-init
loop-fewer-init c =
    let h = c.in-Some.ensures.cases in
    let good : IsUtf8 c.in-Some.rest.now = search rules in
    record {
      text = good;
      answer = sym (colons_last c.args.text.now c.in-Some.rest.now good (h.1.1 ∙ ap (λ front. front ++ 58 ∷ 58 ∷ []) (sym h.2)));
    }

pub loop-fewer-preserved : goal.loop-fewer-preserved
loop-fewer-preserved c =
    let h = c.in-Some-strip_suffix.ensures.cases in
    let good : IsUtf8 c.in-Some-strip_suffix.fewer.now = search rules in
    let less = escapes_next (chars c.in-Some-strip_suffix.fewer.now) in
    let last : escapes_next (chars c.loop-fewer.rest.now) ≡ not (escapes_next (chars c.in-Some-strip_suffix.fewer.now)) =
    backslash_last c.loop-fewer.rest.now c.in-Some-strip_suffix.fewer.now good (h.1.1 ∙ ap (λ front. front ++ 92 ∷ []) (sym h.2)) in
    record { text = good; answer = turn c.loop-fewer.escaped less ∙ sym (ap (λ b. if c.loop-fewer.escaped then b else not b) last) ∙ c.loop-fewer.invariant.answer }
  where
    turn : (a b : Bool) → (if not a then b else not b) ≡ (if a then not b else not (not b))
    turn true b = refl
    turn false true = refl
    turn false false = refl

pub returns : goal.returns
returns c =
    let none : escapes_next (chars c.loop-fewer.rest.now) ≡ false = backslash_none c.loop-fewer.rest.now c.loop-fewer.invariant.text c.in_default-strip_suffix.ensures.cases in
    last c.loop-fewer.escaped ∙ sym (ap (λ b. if c.loop-fewer.escaped then b else not b) none) ∙ c.loop-fewer.invariant.answer
  where
    last : (a : Bool) → not a ≡ (if a then false else not false)
    last true = refl
    last false = refl
