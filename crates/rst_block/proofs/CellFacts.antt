-- No line of a table's cell ends with a white character.
use Rattle.std.proofs.Common.{◌≡◌, ℕ, ◌+◌, ◌-◌, true, List, [], ◌∷◌, ◌++◌, map, filter, take, drop, length, Option, None, Some, refl}
use Rattle.std.specs.Prelude.{flat_map, ◌==◌}
use Rattle.std.specs.List.{range_with_len, AllByRecursion}
use Rattle.rst_text.specs.Block.{Block, first_number, first_parts}
use Rattle.rst_text.specs.Extent.{least_indent}
use Rattle.rst_text.proofs.LineTexts.{ends_white-trimmed}
use Rattle.rst_markup_blocks.specs.TableRows.{grid_size, grid_bottom, simple_size, head_border}
use Rattle.rst_markup_tables.specs.Cells.{characters, cut_places, cell_line, cell_block}
use Rattle.rst_markup_tables.specs.GridTable.{head_of, with_dashes, grid_fault, is_row, is_column, cell_of, row_cells, tiled}
use Rattle.rst_markup_tables.specs.Counts.{below}
use Rattle.rst_markup_tables.specs.Places.{Grid, rows_of}
use Rattle.rst_markup_tables.specs.SimpleTable.{simple_rows, row_spans, lines_of_row, span_of, span_right, entry, row_entries, simple_fault, simple_by, simple_table}
use Rattle.rst_markup_tables.specs.Tiling.{tiling_of, grid_by, grid_table}
use Rattle.rst_markup_tables.specs.declared.results.Cell.{Cell}
use Rattle.rst_markup_tables.specs.declared.results.TableDetail.{TableDetail}
use Rattle.rst_block_state.specs.looks.BudgetLaws.{is_trimmed}
use Rattle.rst_block_state.specs.Constructs.{Construct, grid, simple, Found}
use Rattle.rst_block_state.specs.Inside.{cell_blocks, cells_by, cells_with, cells}
use Rattle.rst_block_state.specs.machine.Rest.{found_from}
use Rattle.rst_block_state.specs.Within.{Within}
use Rattle.rst_block_state.proofs.PartFacts.{trimmed_shorten}

abbrev pub AreTrimmed : List Block → Type 0
AreTrimmed Cs = AllByRecursion (λ C. is_trimmed C ≡ true) Cs

-- ---- some cells

trimmed_append : (Cs Ds : List Block) → AreTrimmed Cs → AreTrimmed Ds → AreTrimmed (Cs ++ Ds)
trimmed_append [] Ds h k = k
trimmed_append (C ∷ Cs) Ds h k = (h.0, trimmed_append Cs Ds h.1 k)

trimmed_flat : {A : Type 0} (f : A → List Block) → ((a : A) → AreTrimmed (f a)) → (xs : List A) → AreTrimmed (flat_map f xs)
trimmed_flat f h [] = tt
trimmed_flat f h (x ∷ xs) = trimmed_append (f x) (flat_map f xs) (h x) (trimmed_flat f h xs)

-- the lines of cells
abbrev lines_of : List Cell → List Block
lines_of cs = map (λ (c : Cell). c.lines) cs

lines_append : (cs ds : List Cell) → AreTrimmed (lines_of cs) → AreTrimmed (lines_of ds) → AreTrimmed (lines_of (cs ++ ds))
lines_append [] ds h k = k
lines_append (c ∷ cs) ds h k = (h.0, lines_append cs ds h.1 k)

rows_trimmed : {A : Type 0} (f : A → List Cell) → ((a : A) → AreTrimmed (lines_of (f a))) → (xs : List A) → AreTrimmed (lines_of (flat_map (λ (row : List Cell). row) (map f xs)))
rows_trimmed f h [] = tt
rows_trimmed f h (x ∷ xs) = lines_append (f x) (flat_map (λ (row : List Cell). row) (map f xs)) (h x) (rows_trimmed f h xs)

row_trimmed : {A : Type 0} (f : A → Cell) → ((a : A) → is_trimmed (f a).lines ≡ true) → (xs : List A) → AreTrimmed (lines_of (map f xs))
row_trimmed f h [] = tt
row_trimmed f h (x ∷ xs) = (h x, row_trimmed f h xs)

-- ---- the cells of a table

lines_trimmed : (left : ℕ) (right : Option ℕ) (rows : Grid) → is_trimmed (map (cell_line left right) rows) ≡ true
lines_trimmed left right [] = refl
lines_trimmed left right (r ∷ rs) = rw (ends_white-trimmed (characters (cut_places left right r.places)), lines_trimmed left right rs) refl

block_trimmed : (left : ℕ) (right : Option ℕ) (rows : Grid) → is_trimmed (cell_block left right rows) ≡ true
block_trimmed left right rows = trimmed_shorten (least_indent (map (cell_line left right) rows)) (map (cell_line left right) rows) (lines_trimmed left right rows)

tiled_trimmed : (line i : ℕ) (head : Option ℕ) (G : Grid) (o : _) → AreTrimmed (cell_blocks (tiled line i head G o))
tiled_trimmed line i head G None = tt
tiled_trimmed line i head G (Some rs) =
    let rows : ℕ → ℕ = below (is_row G rs) in
    let columns : ℕ → ℕ = below (is_column G rs) in
    rows_trimmed (row_cells rows columns G rs)
    (λ n. row_trimmed (cell_of rows columns G) (λ r. block_trimmed (r.left + 1) (Some r.right) (take (r.bottom - (r.top + 1)) (drop (r.top + 1) G))) (filter (λ r. rows r.top == n) rs))
    (range_with_len 0 (rows (length G) - 1))

grid_trimmed : (B : Block) (i : ℕ) → AreTrimmed (cell_blocks (grid_table B i))
grid_trimmed B i = by (grid_fault (grid_bottom X) T)
  where
    X : Block
    X = drop i B

    T : Grid
    T = rows_of (take (grid_size X) X)

    by : (o : Option TableDetail) → AreTrimmed (cell_blocks (grid_by (first_number X) i T o))
    by (Some detail) = tt
    by None = let G : Grid = with_dashes T (head_of T) in tiled_trimmed (first_number X) i (head_of T) G (tiling_of G)

simple_trimmed : (B : Block) (i : ℕ) → AreTrimmed (cell_blocks (simple_table B i))
simple_trimmed B i = by (simple_fault X T)
  where
    X : Block
    X = drop i B

    T : Grid
    T = rows_of (take (simple_size X) X)

    by : (o : Option TableDetail) → AreTrimmed (cell_blocks (simple_by (first_parts X).unmarked (first_number X) i (head_border X) T o))
    by (Some detail) = tt
    by None =
        rows_trimmed (row_entries T)
        (λ r. let spans = row_spans T r in row_trimmed (entry (lines_of_row T r) spans) (λ k. block_trimmed (span_of spans k).from (span_right spans k) (lines_of_row T r)) (range_with_len 0 (length spans)))
        (simple_rows (first_parts X).unmarked T)

-- ---- the cells of a block

with_trimmed : (B : Block) (f : Found) → AreTrimmed (cells_with B f)
with_trimmed B f = by f.what
  where
    by : (what : Construct) → AreTrimmed (cells_by what B f.span.start)
    by grid = grid_trimmed B f.span.start
    by simple = simple_trimmed B f.span.start
    by _ = tt

pub cells_trimmed : (c : Within) (B : Block) → AreTrimmed (cells c B)
cells_trimmed c B = trimmed_flat (cells_with B) (with_trimmed B) (found_from c.titles B 0)
