use Rattle.std.proofs.Common.{◌≡◌, ◌-◌, ◌∷◌, ◌++◌, ℕ, List, [], drop, map, arith, rules, refl, sym, ap, ◌∙◌, append_assoc}
use Rattle.std.specs.Prelude.{max}
use Rattle.std.specs.Str.{chars}
use Rattle.std.proofs.lemmas.List.{drop-drop}
use Rattle.rst_block_state.specs.Lists.{option_element}
use Rattle.rst_block_body.proofs.option.option_group.Goals as goal

-- what is left of a text from the later of two places on is left of what is left from the one
left : (t : List ℕ) (rest after : List ℕ) (passed from step place : ℕ) → rest ≡ drop passed t → step ≡ from - passed → place ≡ max passed from → after ≡ drop step rest → after ≡ drop place t
left t rest after passed from step place whole less most is =
    is ∙ ap (drop step) whole ∙ drop-drop step passed t ∙ ap (λ i. drop i t) (omega (arith, less, most))

-- one more is made of the next
one_more : {A B : Type 0} (f : A → B) (made now : List B) (b : B) (a : A) (from more : List A) (all : List B) → from ≡ a ∷ more → b ≡ f a → now ≡ made ++ b ∷ [] → made ++ map f from ≡ all → now ++ map f more ≡ all
one_more f made now b a from more all steps is puts whole = rw (puts, is) (append_assoc made (f a ∷ []) (map f more) ∙ ap (λ l. made ++ map f l) (sym steps) ∙ whole)

pub loop-listed-init : goal.loop-listed-init
loop-listed-init c = (c.utf8.text, refl, search rules)

pub skip-rest-requires-text-text : goal.skip-rest-requires-text-text
skip-rest-requires-text-text c κs = c.loop-listed.invariant.0

pub loop-listed-preserved : goal.loop-listed-preserved
loop-listed-preserved c = (
  c.skip-rest.utf8,
  left (chars c.args.text.now) (chars c.loop-listed.rest.now) (chars c.skip-rest.result.now) c.loop-listed.passed c.in-Some.listed.string.from c.saturating_sub.result c.max-passed.result
      c.loop-listed.invariant.1 c.saturating_sub.ensures c.max-passed.ensures c.skip-rest.ensures.chars,
  one_more (option_element (chars c.args.text.now) c.args.line) c.loop-listed.options.items c.push.new.self.items c.match-listed.made c.in-Some.listed _ _ _
      c.in-Some.ensures.steps.0 (search rules) c.in_ok-push.ensures.items c.loop-listed.invariant.2,
)
