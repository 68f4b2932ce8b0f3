-- Lines whose numbers follow one another, and in which the same parts hold.
use Rattle.std.proofs.Common.{⊎_elim, ◌≡◌, ℕ, ◌+◌, ◌-◌, ◌<◌, ◌≤◌, inl, inr, [], ◌∷◌, ◌++◌, length, take, drop, get_or, set, Option, Some, None, IfSome, sym, subst, ap, ap₂, ◌∙◌, arith}
use Rattle.std.proofs.lemmas.Bool.{cases_eq}
use borrow.Author.Count.{below_more}
use Rattle.std.specs.List.{between}
use Rattle.std.proofs.lemmas.List.Edits.{between_more}
use Rattle.std.proofs.lemmas.Grind.{get_or-set_at}
use Rattle.std.proofs.lemmas.List.{get_or-set_other, get_or-take, get_or-drop, length-map, length-set, length-take}
use Rattle.rst_text.specs.Block.{Block, first_number, first_parts}
use Rattle.rst_markup_tables.specs.GridTable.{dashed, with_dashes}
use Rattle.rst_markup_tables.specs.Places.{Row, Grid, AreNumbered, no_row, row_of_line, rows_of}

-- a row has the number of a place of a block, and the parts of its first line
abbrev pub IsRowAt : Block → ℕ → Row → Type 0
IsRowAt B k r = (r.number ≡ first_number B + k) × (r.parts ≡ first_parts B)

-- the lines of a block from one place up to another have the numbers of these places, and the parts of the first
abbrev pub NumbersFrom : Block → ℕ → ℕ → Type 0
NumbersFrom B low high = (k : ℕ) → low ≤ k → k < high → IsRowAt B k (get_or (rows_of B) k no_row)

-- one line more
pub line_more : (B : Block) (low k : ℕ) (r : Row) (rs : Grid) → low ≤ k → k < length B → r ≡ get_or (rows_of B) k no_row → IsRowAt B k r → rs ≡ between low k (rows_of B) → NumbersFrom B low k
    → (rs ++ r ∷ [] ≡ between low (k + 1) (rows_of B)) × NumbersFrom B low (k + 1)
line_more B low k r rs above below is here so all = (
  ap₂ (λ (l : Grid) x. l ++ x ∷ []) so is ∙ sym (between_more (rows_of B) low k no_row above (omega (arith, length-map B row_of_line))),
  λ j from less. below_more (λ j. low ≤ j → IsRowAt B j (get_or (rows_of B) j no_row)) k (λ j less from. all j from less) (λ _. subst (IsRowAt B k) is here) j less from,
)

pub numbered-lines : (B : Block) (low high : ℕ) → NumbersFrom B low high → AreNumbered (take (high - low) (drop low (rows_of B)))
numbered-lines B low high all k inside =
    let n : ℕ = high - low in
    let rest : Grid = drop low (rows_of B) in
    let size = length-take n rest in
    let here = get_or-take n rest k no_row (omega (arith, inside, size)) ∙ get_or-drop low (rows_of B) k no_row in
    let first = get_or-take n rest 0 no_row (omega (arith, inside, size)) ∙ get_or-drop low (rows_of B) 0 no_row in
    let row = all (low + k) (omega arith) (omega (arith, inside, size)) in
    let top = all (low + 0) (omega arith) (omega (arith, inside, size)) in
    (omega (arith, ap (λ (r : Row). r.number) here, ap (λ (r : Row). r.number) first, row.0, top.0), ap (λ (r : Row). r.parts) here ∙ row.1 ∙ sym (ap (λ (r : Row). r.parts) first ∙ top.1))

pub numbered-take : (n : ℕ) (G : Grid) → AreNumbered G → AreNumbered (take n G)
numbered-take n G all k inside =
    let size = length-take n G in
    let here = get_or-take n G k no_row (omega (arith, inside, size)) in
    let first = get_or-take n G 0 no_row (omega (arith, inside, size)) in
    let row = all k (omega (arith, inside, size)) in
    (omega (arith, ap (λ (r : Row). r.number) here, ap (λ (r : Row). r.number) first, row.0), ap (λ (r : Row). r.parts) here ∙ row.1 ∙ sym (ap (λ (r : Row). r.parts) first))

-- a row keeps its number and its parts where one row is dashed
dashed-row : (T : Grid) (k i : ℕ) → k < length T
    → let r : Row = get_or (set T k (dashed (get_or T k no_row))) i no_row in (r.number ≡ (get_or T i no_row).number) × (r.parts ≡ (get_or T i no_row).parts)
dashed-row T k i inside = elim (cases_eq i k) [
  | inl same ↦
      let is = get_or-set_at T k i (dashed (get_or T k no_row)) no_row same inside in
      (ap (λ (r : Row). r.number) is ∙ ap (λ j. (get_or T j no_row).number) (sym same), ap (λ (r : Row). r.parts) is ∙ ap (λ j. (get_or T j no_row).parts) (sym same))
  | inr other ↦ let is = get_or-set_other T k i (dashed (get_or T k no_row)) no_row other in (ap (λ (r : Row). r.number) is, ap (λ (r : Row). r.parts) is)
]

pub numbered-dashes : (T : Grid) (head : Option ℕ) → IfSome head (λ k. k < length T) → AreNumbered T → AreNumbered (with_dashes T head)
numbered-dashes T None inside all = all
numbered-dashes T (Some k) inside all = λ i below.
    let here = dashed-row T k i inside in
    let first = dashed-row T k 0 inside in
    let row = all i (omega (arith, below, length-set T k (dashed (get_or T k no_row)))) in
    (omega (arith, here.0, first.0, row.0), here.1 ∙ row.1 ∙ sym first.1)
