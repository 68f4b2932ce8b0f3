-- The tiling that is found square by square.
use Rattle.std.proofs.Common.{inl, inr, ⊎_elim, ◌≡◌, ℕ, zero, suc, ◌+◌, ◌-◌, ◌<◌, ◌≤◌, true, List, [], ◌∷◌, ◌++◌, length, drop, take, Option, Some, None, refl, sym, ap, ◌∙◌, subst, arith, append-nil}
use Rattle.std.proofs.lemmas.Bool.{cases_lt, cases_Bool, lt-ltb, le-ltb, true≢false}
use Rattle.rst_markup_tables.specs.Drawn.{drawn_at, times, AreDrawn, cover_once, IsTiling, Tiles, OneTiling}
use Rattle.rst_markup_tables.specs.GridTable.{IsGridTable, IsOfRows, grid_fault, head_of, tiled, with_dashes}
use Rattle.rst_markup_tables.specs.Places.{Grid, rows_of, width}
use Rattle.rst_markup_tables.specs.Tiling.{with_square, with_squares, with_rows, tiling_of, grid_by, grid_table}
use Rattle.rst_markup_tables.specs.declared.drawn.Rectangle.{Rectangle}
use Rattle.rst_markup_tables.specs.declared.results.TableDetail.{TableDetail}
use Rattle.rst_markup_tables.specs.declared.results.TableResult.{TableResult}
use Rattle.rst_markup_tables.proofs.Rectangles.{drawn_from}
use Rattle.rst_markup_tables.proofs.Scan.{Reached, reached_first, passed, grown, reached_row, reached_all}
use Rattle.rst_text.specs.Block.{Block, first_number}
use Rattle.rst_markup_blocks.specs.TableRows.{grid_bottom, grid_size}

-- ---- the unit squares, one after the other

square_reached : (G : Grid) (i j : ℕ) (rs : List Rectangle) → Reached G i j rs → i + 1 < length G → j + 1 < width G → Reached G i (j + 1) (with_square G i j rs)
square_reached G i j rs s high wide = elim (cases_lt 0 (times rs i j)) [
  | inl some ↦ rw (lt-ltb 0 (times rs i j) some) (passed G i j rs s high wide some)
  | inr none ↦ rw (le-ltb 0 (times rs i j) none) (grown G i j rs (drawn_at G i j) s high wide (omega arith) refl)
]

squares_reached : (G : Grid) (i j n : ℕ) (rs : List Rectangle) → Reached G i j rs → i + 1 < length G → j + n ≤ width G - 1 → Reached G i (j + n) (with_squares G i j n rs)
squares_reached G i j zero rs s high fits = let e : j ≡ j + 0 = omega arith in subst (λ k. Reached G i k rs) e s
squares_reached G i j (suc n) rs s high fits =
    let e : j + 1 + n ≡ j + suc n = omega arith in
    subst (λ k. Reached G i k (with_squares G i (j + 1) n (with_square G i j rs))) e (squares_reached G i (j + 1) n (with_square G i j rs) (square_reached G i j rs s high (omega arith)) high (omega arith))

rows_reached : (G : Grid) (i n : ℕ) (rs : List Rectangle) → Reached G i 0 rs → i + n ≤ length G - 1 → Reached G (i + n) 0 (with_rows G i n rs)
rows_reached G i zero rs s fits = let e : i ≡ i + 0 = omega arith in subst (λ k. Reached G k 0 rs) e s
rows_reached G i (suc n) rs s fits =
    let e : i + 1 + n ≡ i + suc n = omega arith in
    let row = squares_reached G i 0 (width G - 1) rs s (omega arith) (omega arith) in
    let next = reached_row G i (0 + (width G - 1)) (with_squares G i 0 (width G - 1) rs) row (omega arith) in
    subst (λ k. Reached G k 0 (with_rows G (i + 1) n (with_squares G i 0 (width G - 1) rs))) e (rows_reached G (i + 1) n (with_squares G i 0 (width G - 1) rs) next (omega arith))

all_reached : (G : Grid) → Reached G (0 + (length G - 1)) 0 (with_rows G 0 (length G - 1) [])
all_reached G = rows_reached G 0 (length G - 1) [] (reached_first G) (omega arith)

-- none begins in the last row
found_is : (G : Grid) (qs : List Rectangle) → IsTiling G qs → with_rows G 0 (length G - 1) [] ≡ qs
found_is G qs t = let s = (all_reached G).rest qs t in sym (s.1 ∙ ap (λ rest. with_rows G 0 (length G - 1) [] ++ rest) (none s.0 s.2) ∙ append-nil (with_rows G 0 (length G - 1) []))
  where
    none : (rest : List Rectangle) → AreDrawn G (0 + (length G - 1)) 0 rest → rest ≡ []
    none [] a = refl
    none (q ∷ qs) a = let d = drawn_from G q.top q.left q a.1 in absurd (omega (arith, d.within.low, d.within.high, a.0.0))

pub one_tiling_of : (G : Grid) → OneTiling G
one_tiling_of G rs qs a b = sym (found_is G rs a) ∙ found_is G qs b

-- ---- the tiling

pub tiling_of-tiles : (G : Grid) → Tiles G (tiling_of G)
unfolding tiling_of
tiling_of-tiles G =
    let rs : List Rectangle = with_rows G 0 (length G - 1) [] in
    ⊎_elim
    (λ yes. rw yes (reached_all G (0 + (length G - 1)) 0 rs (all_reached G) yes))
    (λ no. rw no (λ qs t. true≢false (sym t.once ∙ ap (cover_once G) (sym (found_is G qs t)) ∙ no)))
    (cases_Bool (cover_once G rs))

-- ---- grid tables

same_tiles : (G : Grid) → (a b : Option (List Rectangle)) → Tiles G a → Tiles G b → a ≡ b
same_tiles G (Some rs) (Some qs) a b = ap Some (one_tiling_of G rs qs a b)
same_tiles G (Some rs) None a b = absurd (b rs a)
same_tiles G None (Some qs) a b = absurd (a qs b)
same_tiles G None None a b = refl

by_fault : (line i : ℕ) (T : Grid) (fault : Option TableDetail) (result : TableResult) → IsOfRows line i T fault result → result ≡ grid_by line i T fault
by_fault line i T (Some detail) result h = h
by_fault line i T None result h = let G = with_dashes T (head_of T) in h.2 ∙ ap (tiled line i (head_of T) G) (same_tiles G h.0 (tiling_of G) h.1 (tiling_of-tiles G))

pub grid_table-is : (B : Block) (i : ℕ) (result : TableResult) → IsGridTable B i result → result ≡ grid_table B i
grid_table-is B i result h =
    let X = drop i B in
    let T = rows_of (take (grid_size X) X) in
    by_fault (first_number X) i T (grid_fault (grid_bottom X) T) result h
