-- For each block exactly one list of spans is that of its constructs.
use Rattle.std.proofs.Common.{◌≡◌, ℕ, zero, suc, ◌+◌, ◌-◌, ◌<◌, ◌≤◌, List, [], ◌∷◌, length, drop, length-drop, refl, sym, ◌∙◌, ap, subst, arith, Bool, true, false, inl, inr}
use Rattle.std.proofs.lemmas.List.{drop_all, drop-drop}
use Rattle.std.proofs.lemmas.Bool.{cases_lt}
use Rattle.rst_text.specs.Block.{Block, is_blank, first_text}
use Rattle.rst_text.proofs.PlacesLemmas.{cases_bool}
use Rattle.rst_markup_blocks.specs.Kinds.{kind_at}
use Rattle.rst_markup_blocks.specs.Partition.{Span, spans, spans_from, construct_size, construct_end, IsBlankAt, IsTextAt, AreBlank, PartitionFrom, IsPartition}
use Rattle.rst_markup_blocks.proofs.ConstructLaws.{row_within}
use Rattle.rst_markup_blocks.proofs.RowLemmas.{row_of_kind}

-- ---- a construct has a line or more, and ends within the block

size_within : (titles : Bool) (X : Block) → 1 ≤ length X → (1 ≤ construct_size titles X) × (construct_size titles X ≤ length X)
unfolding construct_size
size_within titles X some = row_within (kind_at X) titles X some (row_of_kind X)

-- what begins at a line that isn't blank ends after it, within the block
pub end_inside : (titles : Bool) (B : Block) (i : ℕ) → i < length B → (i < construct_end titles B i) × (construct_end titles B i ≤ length B)
end_inside titles B i h =
    let e : length (drop i B) ≡ length B - i = length-drop i B in
    let w : (1 ≤ construct_size titles (drop i B)) × (construct_size titles (drop i B) ≤ length (drop i B)) = size_within titles (drop i B) (omega (arith, e)) in
    (omega (arith, w.0), omega (arith, w.1, e))

-- ---- the spans, step by step

-- lines of a construct that begins before give no span
skipped : (titles : Bool) (i n : ℕ) (X : Block) → spans_from titles i n X ≡ spans_from titles (i + n) 0 (drop n X)
unfolding spans_from
skipped titles i zero X = let e : i ≡ i + 0 = omega arith in ap (λ j. spans_from titles j 0 X) e
skipped titles i (suc n) [] = refl
skipped titles i (suc n) (l ∷ ls) =
    let e : suc i + n ≡ i + suc n = omega arith in
    skipped titles (suc i) n ls ∙ ap (λ j. spans_from titles j 0 (drop n ls)) e

-- nor does a blank line
blank_skipped : (titles : Bool) (i : ℕ) (X : Block) → is_blank (first_text X) ≡ true → spans_from titles i 0 X ≡ spans_from titles (suc i) 0 (drop 1 X)
unfolding spans_from
blank_skipped titles i [] h = refl
blank_skipped titles i (l ∷ ls) h = rw h refl

-- the lines from one place to another
abbrev pub span_to : ℕ → ℕ → Span
span_to i j = record { start = i; stop = j }

-- a construct, and the spans after it
begun : (titles : Bool) (i : ℕ) (X : Block) → is_blank (first_text X) ≡ false
    → spans_from titles i 0 X ≡ span_to i (i + construct_size titles X) ∷ spans_from titles (i + construct_size titles X) 0 (drop (construct_size titles X) X)
unfolding spans_from
begun titles i [] h = let no : true ≡ false = h in cc
begun titles i (l ∷ ls) h = rw h (ap (λ (S : List Span). span_to i (i + construct_size titles (l ∷ ls)) ∷ S) (by (construct_size titles (l ∷ ls)) (size_within titles (l ∷ ls) (omega arith)).0))
  where
    by : (n : ℕ) → 1 ≤ n → spans_from titles (suc i) (n - 1) ls ≡ spans_from titles (i + n) 0 (drop n (l ∷ ls))
    by zero some = absurd (omega (arith, some))
    by (suc n) some =
        let e : suc n - 1 ≡ n = omega arith in
        let f : suc i + n ≡ i + suc n = omega arith in
        ap (λ k. spans_from titles (suc i) k ls) e ∙ skipped titles (suc i) n ls ∙ ap (λ j. spans_from titles j 0 (drop n ls)) f

-- on places: a blank line
pub past : (titles : Bool) (i : ℕ) (B : Block) → IsBlankAt B i → spans_from titles i 0 (drop i B) ≡ spans_from titles (suc i) 0 (drop (suc i) B)
past titles i B h =
    let e : i + 1 ≡ suc i = omega arith in
    blank_skipped titles i (drop i B) h ∙ ap (spans_from titles (suc i) 0) (drop-drop 1 i B) ∙ ap (λ j. spans_from titles (suc i) 0 (drop j B)) e

-- and a construct
pub construct_at : (titles : Bool) (i : ℕ) (B : Block) → IsTextAt B i
    → spans_from titles i 0 (drop i B) ≡ span_to i (construct_end titles B i) ∷ spans_from titles (construct_end titles B i) 0 (drop (construct_end titles B i) B)
construct_at titles i B h =
    begun titles i (drop i B) h
    ∙ ap (λ (X : Block). span_to i (construct_end titles B i) ∷ spans_from titles (construct_end titles B i) 0 X) (drop-drop (construct_size titles (drop i B)) i B)

-- ---- there is no other list

pub over_blanks : (titles : Bool) (B : Block) (n i : ℕ) → AreBlank B i (i + n) → spans_from titles i 0 (drop i B) ≡ spans_from titles (i + n) 0 (drop (i + n) B)
over_blanks titles B zero i h = ap (λ j. spans_from titles j 0 (drop j B)) (omega arith)
over_blanks titles B (suc n) i h =
    let e : suc i + n ≡ i + suc n = omega arith in
    past titles i B (h i (omega arith) (omega arith))
    ∙ over_blanks titles B n (suc i) (λ k low high. h k (omega (arith, low)) (omega (arith, high)))
    ∙ ap (λ j. spans_from titles j 0 (drop j B)) e

pub none_past : (titles : Bool) (i : ℕ) (B : Block) → length B ≤ i → spans_from titles i 0 (drop i B) ≡ []
unfolding spans_from
none_past titles i B h = rw (drop_all i B h) refl

pub only : (titles : Bool) (S : List Span) (i : ℕ) (B : Block) → PartitionFrom titles B i S → S ≡ spans_from titles i 0 (drop i B)
only titles [] i B h =
    elim (cases_lt i (length B)) [
      | inl below ↦ (let e : i + (length B - i) ≡ length B = omega (arith, below) in
          sym (over_blanks titles B (length B - i) i (λ k low high. h k low (omega (arith, high, e))) ∙ ap (λ j. spans_from titles j 0 (drop j B)) e ∙ none_past titles (length B) B (omega arith)))
      | inr beyond ↦ sym (none_past titles i B beyond)
    ]
only titles (s ∷ S) i B (low, blanks, text, stop, inside, rest) =
    let e : i + (s.start - i) ≡ s.start = omega (arith, low) in
    sym (over_blanks titles B (s.start - i) i (λ k l h. blanks k l (omega (arith, h, e))) ∙ ap (λ j. spans_from titles j 0 (drop j B)) e
    ∙ construct_at titles s.start B text
    ∙ ap (λ j. span_to s.start j ∷ spans_from titles j 0 (drop j B)) (sym stop)
    ∙ ap (λ (T : List Span). s ∷ T) (sym (only titles S s.stop B rest)))

-- ---- the spans are such a list

one_earlier : (B : Block) (i j : ℕ) → IsBlankAt B i → AreBlank B (suc i) j → AreBlank B i j
one_earlier B i j here later k low high =
    elim (cases_lt i k) [
      | inl above ↦ later k (omega (arith, above)) high
      | inr below ↦ (let e : i ≡ k = omega (arith, low, below) in subst (IsBlankAt B) e here)
    ]

earlier : (titles : Bool) (B : Block) (i : ℕ) (S : List Span) → IsBlankAt B i → PartitionFrom titles B (suc i) S → PartitionFrom titles B i S
earlier titles B i [] here h = one_earlier B i (length B) here h
earlier titles B i (s ∷ S) here (low, blanks, text, stop, inside, rest) = (omega (arith, low), one_earlier B i s.start here blanks, text, stop, inside, rest)

ended : (titles : Bool) (i : ℕ) (B : Block) → length B ≤ i → PartitionFrom titles B i (spans_from titles i 0 (drop i B))
ended titles i B h = subst (PartitionFrom titles B i) (sym (none_past titles i B h)) (λ k low high. absurd (omega (arith, h, low, high)))

from_on : (titles : Bool) (fuel i : ℕ) (B : Block) → length B ≤ i + fuel → PartitionFrom titles B i (spans_from titles i 0 (drop i B))
from_on titles zero i B h = ended titles i B (omega (arith, h))
from_on titles (suc fuel) i B h =
    elim (cases_lt i (length B)) [
      | inr beyond ↦ ended titles i B beyond
      | inl inside ↦ elim (cases_bool (is_blank (first_text (drop i B)))) [
        | inl blank ↦ subst (PartitionFrom titles B i) (sym (past titles i B blank))
            (earlier titles B i (spans_from titles (suc i) 0 (drop (suc i) B)) blank (from_on titles fuel (suc i) B (omega (arith, h))))
        | inr text ↦ (let w : (i < construct_end titles B i) × (construct_end titles B i ≤ length B) = end_inside titles B i inside in
            subst (PartitionFrom titles B i) (sym (construct_at titles i B text))
            (omega arith, (λ k low high. absurd (omega (arith, low, high))), text, refl, w.1, from_on titles fuel (construct_end titles B i) B (omega (arith, h, w.0))))
      ]
    ]

pub some : (titles : Bool) (B : Block) → IsPartition titles B (spans titles B)
some titles B = from_on titles (length B) 0 B (omega arith)
