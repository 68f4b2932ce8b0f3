-- How many lines an extent looks at, and what its lines are.
use Rattle.std.proofs.Common.{◌≡◌, ◌∙◌, ℕ, zero, suc, ◌+◌, ◌<◌, ◌≤◌, Bool, true, false, cond, [], ◌∷◌, length, take, drop, refl, arith, leb}
use Rattle.std.proofs.lemmas.List.{drop_all}
use Rattle.rst_text.specs.Block.{Block, first_text, indentation, is_blank}
use Rattle.rst_text.specs.Extent.{extent, past_blank}
use Rattle.rst_text.specs.Kept.{IsEmptyRun}
use Rattle.rst_text.specs.Reach.{blank_len, looked, through_text}
use Rattle.rst_text.specs.MayCut.{is_indented}
use Rattle.rst_text.proofs.Ends.{past_run, text_is}

-- An extent looks once at each of its lines, and at those through the first after it that is not blank.
pub looked_is : (least : ℕ) (X : Block) → looked least X ≡ extent least X + through_text (drop (extent least X) X)
unfolding looked extent through_text
looked_is least [] = refl
looked_is least (l ∷ ls) = by (is_blank l.text) (leb least (indentation l.text)) refl (extent least ls) (looked_is least ls)
  where
    by : (b d : Bool) → is_blank l.text ≡ b → (n : ℕ) → looked least ls ≡ n + through_text (drop n ls)
        → cond b (suc (looked least ls)) (cond d (suc (looked least ls)) 1) ≡ cond b (past_blank n) (cond d (suc n) 0) + through_text (drop (cond b (past_blank n) (cond d (suc n) 0)) (l ∷ ls))
    by true d e zero h = rw e (omega (arith, h))
    by true d e (suc n) h = omega (arith, h)
    by false true e n h = omega (arith, h)
    by false false e n h = rw e refl

-- The lines of an extent are blank or indented.
pub extent_indented : (least : ℕ) (X : Block) → is_indented least (take (extent least X) X) ≡ true
unfolding extent
extent_indented least [] = refl
extent_indented least (l ∷ ls) = by (is_blank l.text) (leb least (indentation l.text)) refl refl (extent least ls) (extent_indented least ls)
  where
    by : (b d : Bool) → is_blank l.text ≡ b → leb least (indentation l.text) ≡ d → (n : ℕ) → is_indented least (take n ls) ≡ true
        → is_indented least (take (cond b (past_blank n) (cond d (suc n) 0)) (l ∷ ls)) ≡ true
    by true d e k zero h = refl
    by true d e k (suc n) h = rw e h
    by false true e k n h = rw (e, k) h
    by false false e k n h = refl

-- ---- blank lines

-- what is counted of blank lines from i on is what is left from j on, and the lines between
pub record Passed (B : Block) (i j : ℕ) : Type 0 where
  pub blank : i + blank_len (drop i B) ≡ j + blank_len (drop j B)
  pub through : i + through_text (drop i B) ≡ j + through_text (drop j B)

one_passed : (B : Block) (i : ℕ) → i < length B → first_text (drop i B) ≡ [] → Passed B i (i + 1)
unfolding blank_len through_text
one_passed [] i below e = absurd (omega arith)
one_passed (l ∷ ls) zero below e = record { blank = rw e (omega arith); through = rw e (omega arith) }
one_passed (l ∷ ls) (suc i) below e = let h = one_passed ls i (omega arith) e in let same : suc i + 1 ≡ suc (i + 1) = omega arith in rw same (record { blank = omega (arith, h.blank); through = omega (arith, h.through) })

-- an empty line, and those after it
pub run_passed : (B : Block) (i next : ℕ) → i < length B → length (first_text (drop i B)) ≡ 0 → IsEmptyRun B (i + 1) (length B) next → Passed B i next
run_passed B i next below e run =
    past_run (Passed B i) B i next below e run
    (λ k low inside empty p. let one = one_passed B k inside empty in record { blank = p.blank ∙ one.blank; through = p.through ∙ one.through })
    (record { blank = refl; through = refl })

-- no blank line is left
pub blank_none : (X : Block) → 1 ≤ length (first_text X) → (blank_len X ≡ 0) × (through_text X ≡ 1)
unfolding blank_len through_text
blank_none [] h = absurd (omega arith)
blank_none (l ∷ ls) h = rw (text_is l.text h) (refl, refl)

pub blank_end : (B : Block) (i : ℕ) → length B ≤ i → (blank_len (drop i B) ≡ 0) × (through_text (drop i B) ≡ 0)
unfolding blank_len through_text
blank_end B i over = rw (drop_all i B over) (refl, refl)
