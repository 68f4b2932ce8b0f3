-- The lines of a grid table.
use Rattle.std.proofs.Common.{◌≡◌, ℕ, suc, ◌+◌, ◌-◌, ◌<◌, ◌≤◌, Bool, true, false, cond, ◌&&◌, List, [], ◌∷◌, length, take, drop, length-take, length-drop, get_or, map, refl, sym, ap, ap₂, ◌∙◌, arith, leb, Option, Some, None, bytes_eq, chars}
use Rattle.std.proofs.lemmas.List.{drop_more, drop-drop, drop-map, get_or-map, length-map, take-map, take-take}
use Rattle.std.proofs.lemmas.Bool.{leb-true, leb-false}
use Rattle.std.proofs.Math.Nat.{le-min}
use Rattle.std.specs.Cmp.Lexicographic.{bytes_decides}
use Rattle.std.specs.List.{list_any}
use Rattle.std.specs.Str.{all_scalars}
use Rattle.rst_text.specs.Block.{Block, first_text, first_number, first_parts, no_line}
use Rattle.rst_text.specs.Lines.{is_line_end}
use Rattle.rst_text.specs.Places.{IsLast}
use Rattle.rst_text.proofs.PlacesLemmas.{IsLast-new, IsLast-one, NoneFrom-nothing}
use Rattle.rst_markup_lines.specs.Border.{is_grid_border}
use Rattle.rst_markup_blocks.specs.declared.lines.LineTest.TheVariants.{Drawn}
use Rattle.rst_markup_blocks.specs.Lines.{lines_while}
use Rattle.rst_markup_blocks.proofs.RowLaws.{while_le}
use Rattle.rst_markup_blocks.proofs.TableLaws.{grid_size_le}
use Rattle.rst_markup_blocks.specs.TableRows.{lines_through, is_border_at, grid_bottom, grid_size, grid_scan}
use Rattle.rst_markup_blocks.proofs.TableLemmas.{grid_size-is}
use Rattle.rst_markup_tables.specs.Places.{Row, Grid, no_row, row_of_line, rows_of}
use Rattle.rst_markup_tables.specs.Cells.{characters, AreOfLine}
use Rattle.rst_markup_tables.specs.GridTable.{dash}
use Rattle.rst_markup_tables.specs.declared.places.Place.{Place}
use Rattle.rst_markup_tables.specs.declared.places.Place.TheVariants.{Character, Second}

-- a line that is the same as a border is one
pub known_border : (border text : List ℕ) → bytes_eq border text ≡ true → is_grid_border (chars border) ≡ true → true ≡ is_grid_border (chars text)
known_border border text same is = sym (ap (λ bytes. is_grid_border (chars bytes)) (sym ((bytes_decides border text).0 same)) ∙ is)

-- ---- a line that was read

pub row_here : (B : Block) (k : ℕ) (r : Row) → k < length B → r ≡ row_of_line (record { number = first_number (drop k B); text = first_text (drop k B); parts = first_parts (drop k B) }) → r ≡ get_or (rows_of B) k no_row
row_here B k r below is =
    is ∙ ap (λ (X : Block). row_of_line (record { number = first_number X; text = first_text X; parts = first_parts X })) (drop_more B k no_line below) ∙ sym (get_or-map row_of_line B k no_line no_row below)

-- the rows of a block's n lines from line i on
pub rows-taken : (B : Block) (i n : ℕ) → take n (drop i (rows_of B)) ≡ rows_of (take n (drop i B))
rows-taken B i n = ap (take n) (drop-map row_of_line i B) ∙ take-map row_of_line n (drop i B)

-- ---- the lines that begin with `+` or `|`

-- the bottom border so far, where one line more is looked at
border-by : (p : ℕ → Bool) (n : ℕ) (o : Option ℕ) (a b : Bool) → leb 2 n ≡ a → p n ≡ b → IsLast p 2 n o → IsLast p 2 (n + 1) (cond (a && b) (Some n) o)
border-by p n o true true two hit h = IsLast-new p 2 n (leb-true 2 n two) hit
border-by p n o true false two miss h = IsLast-one p 2 n o miss h
border-by p n (Some j) false b two is h = absurd (omega (arith, leb-false 2 n two, h.0, h.1))
border-by p n None false b two is h = NoneFrom-nothing p 2 (n + 1) (omega (arith, leb-false 2 n two))

pub border-more : (B : Block) (i k : ℕ) (o : Option ℕ) → i ≤ k → IsLast (is_border_at (drop i B)) 2 (k - i) o
    → IsLast (is_border_at (drop i B)) 2 (k + 1 - i) (cond (leb 2 (k - i) && is_grid_border (first_text (drop k B))) (Some (k - i)) o)
border-more B i k o above h =
    let here : drop (k - i) (drop i B) ≡ drop k B = drop-drop (k - i) i B ∙ ap (λ n. drop n B) (let e : i + (k - i) ≡ k = omega arith in e) in
    let next : k + 1 - i ≡ k - i + 1 = omega arith in
    rw next (border-by (is_border_at (drop i B)) (k - i) o (leb 2 (k - i)) (is_grid_border (first_text (drop k B))) refl (ap (λ Y. is_grid_border (first_text Y)) here) h)

-- lines that the scan goes over
pub scan-over : (X : Block) (m : ℕ) → m ≤ suc (lines_while Drawn X) → m ≤ length X → m ≤ grid_scan X
unfolding grid_scan
scan-over X m above inside = le-min above inside

pub scan-here : (B : Block) (i k : ℕ) → i ≤ k → k < length B → k + lines_while Drawn (drop k B) ≡ i + lines_while Drawn (drop i B) → k + 1 ≤ i + grid_scan (drop i B)
scan-here B i k above inside among = let over = scan-over (drop i B) (k + 1 - i) (omega (arith, among)) (omega (arith, inside, length-drop i B)) in omega (arith, over)

-- the lines of the table are those through its bottom border, or all where there is none
pub table_rows-are : (X : Block) (L : Grid) (o : Option ℕ) → L ≡ rows_of (take (lines_while Drawn X) X) → o ≡ grid_bottom X → take (lines_through (length L) o) L ≡ rows_of (take (grid_size X) X)
table_rows-are X L o rows bottom =
    let n : ℕ = lines_while Drawn X in
    let all : length L ≡ n = ap length rows ∙ omega (arith, length-map (take n X) row_of_line, length-take n X, while_le Drawn X) in
    let size : lines_through (length L) o ≡ grid_size X = ap (λ m. lines_through m o) all ∙ sym (grid_size-is X o bottom) in
    ap₂ (λ (m : ℕ) (G : Grid). take m G) size rows ∙ take-map row_of_line (grid_size X) (take n X) ∙ ap rows_of (take-take (grid_size X) n X (grid_size_le X))

-- ---- the rule between head and body

scalars-dashed : (ps : List Place) → all_scalars (characters ps) ≡ true → all_scalars (characters (map dash ps)) ≡ true
scalars-dashed [] h = refl
scalars-dashed (Character c ∷ ps) h = grind (arith, scalars-dashed ps)
scalars-dashed (Second ∷ ps) h = scalars-dashed ps h

unended-dashed : (ps : List Place) → list_any is_line_end (characters ps) ≡ false → list_any is_line_end (characters (map dash ps)) ≡ false
unended-dashed [] h = refl
unended-dashed (Character c ∷ ps) h = grind (arith, unended-dashed ps)
unended-dashed (Second ∷ ps) h = unended-dashed ps h

pub dashed-of_line : (ps new : List Place) → new ≡ map dash ps → AreOfLine ps → AreOfLine new
dashed-of_line ps new e h = record { scalars = ap (λ ps. all_scalars (characters ps)) e ∙ scalars-dashed ps h.scalars; unended = ap (λ ps. list_any is_line_end (characters ps)) e ∙ unended-dashed ps h.unended }
