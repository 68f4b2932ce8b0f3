-- Lines that are indented enough for two cuts.
use Rattle.std.proofs.Common.{◌≡◌, ⊎_elim, ℕ, ◌+◌, ◌-◌, ◌≤◌, true, ◌||◌, [], ◌∷◌, take, drop, refl, sym, ap, ◌∙◌, arith, leb, inl, inr}
use Rattle.std.specs.Prelude.{unwrap_or}
use Rattle.std.proofs.Common.{min, Some, None}
use Rattle.std.proofs.lemmas.Bool.{le-leb, or_right, cases_Bool, cases_lt}
use Rattle.rst_text.specs.Block.{Line, Block, is_blank, indentation}
use Rattle.rst_text.specs.MayCut.{is_indented}
use Rattle.rst_text.specs.Extent.{extent, extent_of, least_indent}
use Rattle.rst_text.proofs.CutLaws.{take_of, rest_of}
use Rattle.rst_text.proofs.Least.{least_from, least_from-all}
use Rattle.rst_text.proofs.TextLemmas.{all-parts, all-between}

pub is_indented-take : (r n : ℕ) (B : Block) → is_indented r B ≡ true → is_indented r (take n B) ≡ true
is_indented-take r n B h = (all-parts (λ (l : Line). is_blank l.text || leb r (indentation l.text)) n B h).0

pub is_indented-part : (r j k n : ℕ) (B : Block) → k ≤ n → is_indented r (take n B) ≡ true → is_indented r (take (k - j) (drop j B)) ≡ true
is_indented-part r j k n B within h = elim (cases_lt j k) [
  | inl below ↦ ap (is_indented r) (sym (take_of j (k - j) n B (omega arith))) ∙ all-between (λ (l : Line). is_blank l.text || leb r (indentation l.text)) j (k - j) (take n B) h
  | inr over ↦ (let none : k - j ≡ 0 = omega arith in rw none refl)
]

-- no cut at all
pub is_indented-zero : (B : Block) → is_indented 0 B ≡ true
is_indented-zero [] = refl
is_indented-zero (l ∷ ls) = rw (or_right (is_blank l.text) (leb 0 (indentation l.text)) (le-leb 0 (indentation l.text) (omega arith)), is_indented-zero ls) refl

-- ---- the least indentation

-- no line is indented less than it, and it is no more than what was there before
least-from : (m : ℕ) (X : Block) → (r : ℕ) × (least_from (Some m) X ≡ Some r) × (r ≤ m) × (is_indented r X ≡ true)
unfolding least_from
least-from m [] = (m, refl, omega arith, refl)
least-from m (l ∷ ls) = ⊎_elim
    (λ e. let f = least-from m ls in rw e (f.0, f.1, f.2, f.3))
    (λ e. let g = least-from (min m (indentation l.text)) ls in rw e (g.0, g.1, omega (arith, g.2), rw (le-leb g.0 (indentation l.text) (omega (arith, g.2))) g.3))
    (cases_Bool (is_blank l.text))

least-none : (X : Block) → is_indented (unwrap_or (least_from None X) 0) X ≡ true
unfolding least_from
least-none [] = refl
least-none (l ∷ ls) = elim (cases_Bool (is_blank l.text)) [
  | inl e ↦
      (let here : least_from None (l ∷ ls) ≡ least_from None ls = rw e refl in ap (λ o. is_indented (unwrap_or o 0) (l ∷ ls)) here ∙ rw e (least-none ls))
  | inr e ↦
      (let g = least-from (indentation l.text) ls in
      let here : least_from None (l ∷ ls) ≡ Some g.0 = rw e g.1 in
      ap (λ o. is_indented (unwrap_or o 0) (l ∷ ls)) here ∙ rw (e, le-leb g.0 (indentation l.text) g.2) g.3)
]

-- Each line is blank or indented by the least indentation.
pub is_indented-least : (X : Block) → is_indented (least_indent X) X ≡ true
is_indented-least X = ap (λ n. is_indented n X) (sym (least_from-all X)) ∙ least-none X

-- the lines of an extent, for a cut by its least indentation
pub is_indented-extent : (from least : ℕ) (X : Block) → is_indented (extent_of from least X).indent (take (extent least X) X) ≡ true
is_indented-extent from least X = is_indented-least (take (extent least X) X)

-- all but the first of some lines
pub is_indented-rest : (r i j : ℕ) (B : Block) → is_indented r (take (j - i) (drop i B)) ≡ true → is_indented r (take (j - (i + 1)) (drop (i + 1) B)) ≡ true
is_indented-rest r i j B h = ap (is_indented r) (rest_of i j B) ∙ (all-parts (λ (l : Line). is_blank l.text || leb r (indentation l.text)) 1 (take (j - i) (drop i B)) h).1
