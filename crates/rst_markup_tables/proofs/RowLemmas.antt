-- The rows of cells of a grid table.
use Rattle.std.proofs.Common.{⊎_elim, ◌≡◌, ℕ, zero, suc, ◌+◌, ◌-◌, ◌<◌, ◌≤◌, Bool, true, false, cond, eqb, List, [], ◌∷◌, ◌++◌, append-nil, inl, inr, length, take, get_or, set, map, filter, refl, sym, ap, ap₂, ◌∙◌, arith, Option, Some, None}
use Rattle.std.specs.Prelude.{All}
use Rattle.std.proofs.lemmas.Bool.{cases_lt, cases_eq, eq-eqb, ne_eqb}
use Rattle.std.proofs.lemmas.Bool.Decides.{nat_tests}
use Rattle.std.proofs.lemmas.Grind.{get_or-set_at}
use Rattle.std.proofs.lemmas.List.{get_or-set_other, length-set, map-append}
use Rattle.std.proofs.lemmas.List.Elements.{filter_more}
use Rattle.std.proofs.lemmas.List.Folds.{list_any_at}
use Rattle.std.specs.List.{range_with_len}
use Rattle.rst_markup_tables.specs.Counts.{below}
use Rattle.rst_markup_tables.specs.Drawn.{is_frame, AreDrawn}
use Rattle.rst_markup_tables.specs.GridTable.{bounds_row, is_row, is_column, cell_of, row_cells, dashed, with_dashes, column_widths, gaps}
use Rattle.rst_markup_tables.specs.Marks.{AreMarked, AreRanks}
use Rattle.rst_markup_tables.specs.Places.{Grid, no_row, width}
use Rattle.rst_markup_tables.specs.declared.drawn.Rectangle.{Rectangle}
use Rattle.rst_markup_tables.specs.declared.results.Cell.{Cell}
use Rattle.rst_markup_tables.proofs.BoundLemmas.{drawn_at}
use Rattle.rst_markup_tables.proofs.Lists.{below_more, below_same, all_from-same}
use Rattle.rst_markup_tables.proofs.Rectangles.{IsFrom}

-- ---- a cell more in one row

pub cell_more : (f g : ℕ → ℕ) (G : Grid) (rs : List Rectangle) (i : ℕ) (d : Rectangle) (old : List (List Cell)) (m : ℕ) (x : Cell)
    → i < length rs → m ≡ f (get_or rs i d).top → m < length old → x ≡ cell_of f g G (get_or rs i d)
    → (n : ℕ) → get_or old n [] ≡ row_cells f g G (take i rs) n → get_or (set old m (get_or old m [] ++ x ∷ [])) n [] ≡ row_cells f g G (take (i + 1) rs) n
cell_more f g G rs i d old m x below row within is n had =
    let r : Rectangle = get_or rs i d in
    let more : row_cells f g G (take (i + 1) rs) n ≡ row_cells f g G (take i rs) n ++ map (cell_of f g G) (cond (eqb (f r.top) n) (r ∷ []) []) =
    ap (map (cell_of f g G)) (filter_more (λ r. eqb (f r.top) n) rs i d below) ∙ map-append (cell_of f g G) (filter (λ r. eqb (f r.top) n) (take i rs)) (cond (eqb (f r.top) n) (r ∷ []) []) in
    elim (cases_eq m n) [
      | inl same ↦ rw (more, eq-eqb (f r.top) n (sym row ∙ same)) (get_or-set_at old m n (get_or old m [] ++ x ∷ []) [] (sym same) within ∙ ap₂ (λ a y. a ++ y ∷ []) (ap (λ k. get_or old k []) same ∙ had) is)
      | inr other ↦ rw (more, ne_eqb (f r.top) n (λ e. other (row ∙ e))) (get_or-set_other old m n (get_or old m [] ++ x ∷ []) [] (λ e. other (sym e)) ∙ had ∙ sym (append-nil (row_cells f g G (take i rs) n)))
    ]

-- ---- ranks

pub ranks_of : (p : ℕ → Bool) (n : ℕ) (marks : List Bool) (ranks : List ℕ) → AreMarked p n marks → AreRanks (below (λ k. get_or marks k false)) (length marks) ranks → AreRanks (below p) n ranks
ranks_of p n marks ranks m r = record {
  size = omega (arith, m.size, r.size);
  at = λ k within. r.at k (omega (arith, m.size)) ∙ below_same (λ j. get_or marks j false) p k (λ j less. m.at j (omega arith));
}

pub widths_of : (G : Grid) (rs : List Rectangle) (marks : List Bool) → AreMarked (is_column G rs) (width G) marks → gaps (filter (λ k. get_or marks k false) (range_with_len 0 (length marks))) ≡ column_widths G rs
widths_of G rs marks m = ap (λ n. gaps (filter (λ k. get_or marks k false) (range_with_len 0 n))) m.size
    ∙ ap gaps (all_from-same (λ k. get_or marks k false) (is_column G rs) 0 (width G) (λ k above under. m.at k (omega arith)))

below-mono : (p : ℕ → Bool) (a b : ℕ) → a ≤ b → below p a ≤ below p b
below-mono p a zero h = let e : a ≡ 0 = omega arith in rw e (omega arith)
below-mono p a (suc b) h = ⊎_elim (λ less. omega (arith, below-mono p a b (omega arith))) (λ more. let e : a ≡ suc b = omega arith in omega (arith, ap (below p) e)) (cases_lt a (suc b))

-- its top and its bottom are bounds
bounds : (G : Grid) (r : Rectangle) → IsFrom G r.top r.left r → (bounds_row G r.top r ≡ true) × (bounds_row G r.bottom r ≡ true)
unfolding bounds_row is_frame
bounds G r f = (grind (arith, nat_tests, f.within.high, f.frame), grind (arith, nat_tests, f.within.high, f.frame))

-- a rectangle begins above the last bound
pub in_rows : (G : Grid) (rs : List Rectangle) → AreDrawn G 0 0 rs → All (λ r. below (is_row G rs) r.top < below (is_row G rs) (length G) - 1) rs
in_rows G rs a k d inside =
    let r : Rectangle = get_or rs k d in
    let p : ℕ → Bool = is_row G rs in
    let f = drawn_at G 0 0 rs a k d inside in
    let sides = bounds G r f in
    let top = rw (list_any_at (bounds_row G r.top) rs k d inside sides.0) at (below_more p r.top) in
    let bottom = rw (list_any_at (bounds_row G r.bottom) rs k d inside sides.1) at (below_more p r.bottom) in
    let high = f.within.high in
    let low = f.within.low in
    omega (arith, top, bottom, below-mono p (r.top + 1) r.bottom (omega arith), below-mono p (r.bottom + 1) (length G) (omega arith))

pub dashes-length : (T : Grid) (head : Option ℕ) → length (with_dashes T head) ≡ length T
dashes-length T None = refl
dashes-length T (Some k) = length-set T k (dashed (get_or T k no_row))
