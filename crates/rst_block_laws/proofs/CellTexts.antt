-- The lines of a table's cells consist of characters of the table's lines, and of `-`.
use Rattle.std.proofs.Common.{ℕ, zero, suc, ◌+◌, Bool, List, [], ◌∷◌, ◌&&◌, map, take, drop, length, Option, None, Some, refl}
use Rattle.std.specs.Prelude.{◌==◌}
use Rattle.std.specs.Char.{is_whitespace}
use Rattle.std.specs.List.{AllByRecursion}
use Rattle.std.specs.Str.{drop_trailing_whitespace}
use Rattle.std.proofs.lemmas.Bool.{cond_both}
use Rattle.rst_text.specs.Block.{Block, first_number, first_parts, shorten}
use Rattle.rst_text.specs.Characters.{Text}
use Rattle.rst_markup_blocks.specs.TableRows.{grid_bottom, grid_size, head_border, simple_size}
use Rattle.rst_markup_tables.specs.Cells.{cell_block, cell_line, characters, cut_places}
use Rattle.rst_markup_tables.specs.GridTable.{dash, grid_fault, head_of, tiled, with_dashes}
use Rattle.rst_markup_tables.specs.Places.{Grid, Row, is_double, mark_of, places_of, row_of_line, rows_of}
use Rattle.rst_markup_tables.specs.SimpleTable.{row_spans, simple_by, simple_fault, simple_table, span_of, span_right}
use Rattle.rst_markup_tables.specs.Tiling.{grid_by, grid_table, tiling_of}
use Rattle.rst_markup_tables.specs.declared.results.Cell.{Cell}
use Rattle.rst_markup_tables.specs.declared.results.TableDetail.{TableDetail}
use Rattle.rst_markup_tables.specs.declared.results.TableResult.{TableResult}
use Rattle.rst_markup_tables.specs.declared.results.TableResult.TheVariants.{Malformed, Table}
use Rattle.rst_block_laws.proofs.LineTexts.{all_range}
use Rattle.rst_tree_laws.proofs.Lists.{all_drop, all_made, all_map, all_take}
use Rattle.rst_tree_laws.proofs.Properties.{Suited}
use Rattle.rst_tree_laws.specs.Texts.{BlockKept, Kept}

module _ (P : ℕ → Bool) where
  -- the lines of each cell consist of characters that pass the test
  abbrev pub RowKept : List Cell → Type 0
  RowKept cells = AllByRecursion (λ (cell : Cell). BlockKept P cell.lines) cells

  abbrev pub CellsKept : TableResult → Type 0
  CellsKept (Table widths n rows end) = AllByRecursion RowKept rows
  CellsKept (Malformed end fault) = Unit {0}

  -- ---- places

  -- a place whose character passes the test, if one begins there: before places whose characters pass it, all characters still do
  abbrev Passes : {A : Type 0} → (List A → Text) → A → Type 0
  Passes {A} read p = (ps : List A) → Kept P (read ps) → Kept P (read (p ∷ ps))

  abbrev GridKept : Grid → Type 0
  GridKept G = AllByRecursion (λ (r : Row). AllByRecursion (Passes characters) r.places) G

  places_kept : (cs : Text) → Kept P cs → AllByRecursion (Passes characters) (places_of cs)
  places_kept [] h = tt
  places_kept (c ∷ cs) h = (λ ps k. (h.0, k), cond_both (is_double c) _ _ (AllByRecursion (Passes characters)) (λ e. (λ ps k. k, places_kept cs h.1)) (λ e. places_kept cs h.1))

  rows_kept : (n i : ℕ) (B : Block) → BlockKept P B → GridKept (rows_of (take n (drop i B)))
  rows_kept n i B h = all_map _ _ row_of_line (λ l k. places_kept l.text k) (take n (drop i B)) (all_take _ n (drop i B) (all_drop _ i B h))

  -- ---- cells

  characters_kept : (ps : List _) → AllByRecursion (Passes characters) ps → Kept P (characters ps)
  characters_kept [] h = tt
  characters_kept (p ∷ ps) h = h.0 ps (characters_kept ps h.1)

  trimmed_kept : (cs : Text) → Kept P cs → Kept P (drop_trailing_whitespace cs)
  trimmed_kept [] h = tt
  trimmed_kept (c ∷ cs) h = cond_both (is_whitespace c && length (drop_trailing_whitespace cs) == 0) _ _ (Kept P) (λ e. tt) (λ e. (h.0, trimmed_kept cs h.1))

  cut_kept : (left : ℕ) (right : Option ℕ) (ps : List _) → AllByRecursion (Passes characters) ps → AllByRecursion (Passes characters) (cut_places left right ps)
  cut_kept left None ps h = all_drop _ left ps h
  cut_kept left (Some right) ps h = all_range _ ps left right h

  cell_kept : (left : ℕ) (right : Option ℕ) (G : Grid) → GridKept G → BlockKept P (cell_block left right G)
  cell_kept left right G h =
      all_map _ _ (shorten _) (λ l k. all_drop _ _ l.text k) (map (cell_line left right) G)
      (all_map _ _ (cell_line left right) (λ r k. trimmed_kept (characters (cut_places left right r.places)) (characters_kept _ (cut_kept left right r.places k))) G h)

  -- ---- simple tables

  simple_by_kept : (unmarked : Bool) (line i : ℕ) (head : Option ℕ) (G : Grid) (fault : Option TableDetail) → GridKept G → CellsKept (simple_by unmarked line i head G fault)
  simple_by_kept unmarked line i head G (Some detail) h = tt
  simple_by_kept unmarked line i head G None h = all_made RowKept _ _ (λ r. all_made _ _ _ (λ k. let span = span_of (row_spans G r) k in cell_kept span.from (span_right (row_spans G r) k) _ (all_range _ G r.from r.to h)))

  pub simple_kept : (B : Block) (i : ℕ) → BlockKept P B → CellsKept (simple_table B i)
  simple_kept B i h =
      let X : Block = drop i B in
      let G : Grid = rows_of (take (simple_size X) X) in
      simple_by_kept (first_parts X).unmarked (first_number X) i (head_border X) G (simple_fault X G) (rows_kept (simple_size X) i B h)

  -- ---- grid tables

  tiled_kept : (line i : ℕ) (head : Option ℕ) (G : Grid) (found : _) → GridKept G → CellsKept (tiled line i head G found)
  tiled_kept line i head G None h = tt
  tiled_kept line i head G (Some rs) h = all_made RowKept _ _ (λ n. all_made _ _ _ (λ r. cell_kept (r.left + 1) (Some r.right) _ (all_range _ G (r.top + 1) r.bottom h)))

  module _ (T : List ℕ → Type 0) (s : Suited P T) where
    dashes_kept : (G : Grid) (head : Option ℕ) → GridKept G → GridKept (with_dashes G head)
    dashes_kept G None h = h
    dashes_kept [] (Some k) h = tt
    dashes_kept (r ∷ rs) (Some zero) h = (all_map _ _ dash (λ p k. cond_both (mark_of p == 61) _ p (Passes characters) (λ e ps l. (s.fixed 45 refl, l)) (λ e. k)) r.places h.0, h.1)
    dashes_kept (r ∷ rs) (Some (suc k)) h = (h.0, dashes_kept rs (Some k) h.1)

    grid_by_kept : (line i : ℕ) (G : Grid) (fault : Option TableDetail) → GridKept G → CellsKept (grid_by line i G fault)
    grid_by_kept line i G (Some detail) h = tt
    grid_by_kept line i G None h = tiled_kept line i (head_of G) _ (tiling_of (with_dashes G (head_of G))) (dashes_kept G (head_of G) h)

    pub grid_kept : (B : Block) (i : ℕ) → BlockKept P B → CellsKept (grid_table B i)
    grid_kept B i h =
        let X : Block = drop i B in
        let G : Grid = rows_of (take (grid_size X) X) in
        grid_by_kept (first_number X) i G (grid_fault (grid_bottom X) G) (rows_kept (grid_size X) i B h)
