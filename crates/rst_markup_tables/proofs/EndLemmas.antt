-- Where tables end.
use Rattle.std.proofs.Common.{◌≡◌, ℕ, ◌+◌, ◌*◌, ◌≤◌, Bool, List, length, drop, take, length-take, refl, sym, ap, ◌∙◌, arith, Option, Some, None}
use Rattle.std.proofs.lemmas.List.{length-map}
use Rattle.rst_text.specs.Block.{Block, first_number, first_parts}
use Rattle.std.specs.Prelude.{unwrap_or, IfNone}
use Rattle.std.specs.Option.{option_or}
use Rattle.rst_markup_blocks.specs.TableRows.{lines_through, grid_bottom, grid_size, head_border, simple_bottom, simple_size, simple_scan}
use Rattle.rst_markup_blocks.specs.declared.lines.LineTest.TheVariants.{Drawn}
use Rattle.rst_markup_blocks.proofs.RowLaws.{while_le}
use Rattle.rst_markup_blocks.proofs.TableLaws.{grid_size_le, simple_size_le}
use Rattle.rst_markup_blocks.proofs.TableLemmas.{border_below-below, scan-is, scan_some, simple_size-is}
use Rattle.rst_markup_tables.specs.Places.{Grid, row_of_line, rows_of}
use Rattle.rst_markup_tables.specs.GridTable.{head_of, with_dashes, tiled, grid_fault, IsOfRows, IsGridTable}
use Rattle.rst_markup_tables.specs.Ends.{end_of}
use Rattle.rst_markup_tables.specs.declared.drawn.Rectangle.{Rectangle}
use Rattle.rst_markup_tables.specs.declared.results.TableDetail.{TableDetail}
use Rattle.rst_markup_tables.specs.declared.results.TableResult.{TableResult}
use Rattle.rst_markup_tables.proofs.RowLemmas.{dashes-length}
use Rattle.rst_markup_tables.specs.SimpleTable.{simple_by, simple_fault, simple_table, border_fault}

pub rows_end : (line i : ℕ) (T : Grid) (fault : Option TableDetail) (r : TableResult) → IsOfRows line i T fault r → end_of r ≡ i + length T
rows_end line i T (Some detail) r h = ap end_of h
rows_end line i T None r h = ap end_of h.2 ∙ by h.0 ∙ ap (λ n. i + n) (dashes-length T (head_of T))
  where
    by : (found : Option (List Rectangle)) → end_of (tiled line i (head_of T) (with_dashes T (head_of T)) found) ≡ i + length (with_dashes T (head_of T))
    by None = refl
    by (Some rs) = refl

pub simple_by_end : (unmarked : Bool) (line i : ℕ) (head : Option ℕ) (T : Grid) (fault : Option TableDetail) → end_of (simple_by unmarked line i head T fault) ≡ i + length T
simple_by_end unmarked line i head T (Some detail) = refl
simple_by_end unmarked line i head T None = refl

-- how many rows the first n lines of a block are
pub rows-size : (n : ℕ) (X : Block) → n ≤ length X → length (rows_of (take n X)) ≡ n
rows-size n X h = omega (arith, length-map (take n X) row_of_line, length-take n X)

pub grid_end : (B : Block) (i : ℕ) (r : TableResult) → IsGridTable B i r → end_of r ≡ i + grid_size (drop i B)
grid_end B i r h =
    let X : Block = drop i B in
    rows_end (first_number X) i (rows_of (take (grid_size X) X)) (grid_fault (grid_bottom X) (rows_of (take (grid_size X) X))) r h ∙ ap (λ n. i + n) (rows-size (grid_size X) X (omega (arith, grid_size_le X, while_le Drawn X)))

pub simple_end : (B : Block) (i : ℕ) → end_of (simple_table B i) ≡ i + simple_size (drop i B)
simple_end B i =
    let X : Block = drop i B in
    let T : Grid = rows_of (take (simple_size X) X) in
    simple_by_end (first_parts X).unmarked (first_number X) i (head_border X) T (simple_fault X T) ∙ ap (λ n. i + n) (rows-size (simple_size X) X (simple_size_le X))

-- how many lines a simple table has, by its borders
pub table-size : (X : Block) (n all : ℕ) (head bottom : Option ℕ) → n ≡ lines_through all (option_or bottom head) → all ≡ length X → head ≡ head_border X → bottom ≡ simple_bottom X → n ≡ simple_size X
table-size X n all head bottom is e h b = is ∙ ap (λ m. lines_through m (option_or bottom head)) e ∙ simple_size-is X head bottom h b

-- one whose borders have no fault has its bottom border below the top one
bottom-there : (X : Block) (bottom : Option ℕ) → None ≡ border_fault X bottom → bottom ≡ simple_bottom X → (2 ≤ simple_scan X) × (simple_size X ≡ simple_scan X)
bottom-there X None sound b = cc
bottom-there X (Some k) sound b =
    let below = border_below-below X (unwrap_or (head_border X) 0) k b in
    let scan : simple_scan X ≡ k + 1 = scan-is X (Some k) b in
    let size : k + 1 ≡ simple_size X = simple_size-is X (head_border X) (Some k) refl b in
    (omega (arith, below.0, scan), sym size ∙ sym scan)

-- looks at the borders, where they have a fault
pub looks-borders : (X : Block) (bottom : Option ℕ) (l0 l1 l2 : ℕ) → 1 ≤ length X → bottom ≡ simple_bottom X → l1 ≤ l0 + (2 + simple_scan X) → l2 ≤ l1 + 2 → IfNone bottom (l2 ≤ l1) → l2 ≤ l0 + 4 * simple_scan X
looks-borders X None l0 l1 l2 some b h k none = omega (arith, scan_some X some, none)
looks-borders X (Some k) l0 l1 l2 some b h m none =
    let below = border_below-below X (unwrap_or (head_border X) 0) k b in
    let scan : simple_scan X ≡ k + 1 = scan-is X (Some k) b in
    omega (arith, below.0, scan)

-- looks at them and at the lines of the table
pub looks-lines : (X : Block) (n all : ℕ) (head bottom : Option ℕ) → n ≡ lines_through all (option_or bottom head) → all ≡ length X → head ≡ head_border X → bottom ≡ simple_bottom X → None ≡ border_fault X bottom
    → 4 + simple_scan X + n ≤ 4 * simple_scan X
looks-lines X n all head bottom is e h b sound = let there = bottom-there X bottom sound b in omega (arith, there.0, there.1, table-size X n all head bottom is e h b)
