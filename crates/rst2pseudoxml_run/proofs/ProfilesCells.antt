-- Where no call of program code is in the lines of a table, none is in its cells: each line of a cell is a part of a line of the table, or of the rule
-- between head and body.
use Rattle.std.proofs.Common.{◌≡◌, ℕ, zero, suc, ◌+◌, ◌-◌, inl, inr, Bool, true, false, cond, ◌&&◌, ◌||◌, ◌==◌, List, [], ◌∷◌, length, take, drop, map, get_or, Option, Some, None, is_some, unwrap_or, refl, sym, ap, subst, ◌∙◌, true≢false}
use Rattle.std.specs.Prelude.{flat_map, nat_le, slice_set}
use Rattle.std.specs.Char.{is_whitespace}
use Rattle.std.specs.List.{range_with_len, AllByRecursion}
use Rattle.std.specs.Str.{drop_trailing_whitespace}
use Rattle.rst_text.specs.Block.{Line, Block, shorten, first_number, first_parts}
use Rattle.rst_text.specs.Extent.{least_indent}
use Rattle.rst_text.specs.Places.{first_from}
use Rattle.rst_markup_blocks.specs.TableRows.{grid_bottom, grid_size, head_border, simple_size}
use Rattle.rst_markup_tables.specs.Cells.{cell_block, cell_line, characters, cut_places}
use Rattle.rst_markup_tables.specs.Counts.{below}
use Rattle.rst_markup_tables.specs.GridTable.{cell_of, dash, dashed, grid_fault, head_of, is_column, is_head_rule, is_row, row_cells, tiled, with_dashes}
use Rattle.rst_markup_tables.specs.Places.{consists_of, mark_at, no_row, places_of, row_at, row_of_line, rows_of, Grid, Row}
use Rattle.rst_markup_tables.specs.Results.{cell_blocks}
use Rattle.rst_markup_tables.specs.SimpleTable.{entry, lines_of_row, span_right, row_entries, row_spans, simple_by, simple_fault, simple_rows, simple_table, span_of}
use Rattle.rst_markup_tables.specs.Tiling.{grid_by, grid_table, tiling_of}
use Rattle.rst_markup_tables.specs.declared.results.Cell.{Cell}
use Rattle.rst_markup_tables.specs.declared.results.TableDetail.{TableDetail}
use Rattle.rst_markup_tables.proofs.CellLemmas.{characters-places, cut-keeps}
use Rattle.rst_markup_tables.proofs.Dashes.{IsDash, dashed-characters}
use Rattle.rst2pseudoxml_run.specs.CodeCalls.{begins_code, holds_code, IsWithoutCode}
use Rattle.rst2pseudoxml_run.proofs.ProfilesCode.{and_right, drop_free, part_free}
use Rattle.rst_tree_laws.proofs.Lists.{all_drop, all_flat, all_made, all_map, all_take}

-- ---- parts of lines

trimmed : (t : List ℕ) → (k : ℕ) × (drop_trailing_whitespace t ≡ take k t)
trimmed [] = (0, refl)
trimmed (c ∷ cs) = let r = trimmed cs in by (is_whitespace c && length (drop_trailing_whitespace cs) == 0) r.0 r.1
  where
    by : (b : Bool) (k : ℕ) → drop_trailing_whitespace cs ≡ take k cs → (j : ℕ) × (cond b [] (c ∷ drop_trailing_whitespace cs) ≡ take j (c ∷ cs))
    by true k h = (0, refl)
    by false k h = (suc k, ap (λ l. c ∷ l) h)

-- ---- rows

-- no call is in what is cut from a row
abbrev IsRowFree : Row → Type 0
IsRowFree r = (left : ℕ) (right : Option ℕ) → holds_code (cell_line left right r).text ≡ false

abbrev AreRowsFree : Grid → Type 0
AreRowsFree G = AllByRecursion IsRowFree G

-- no call is in a line
abbrev pub IsLineFree : Line → Type 0
IsLineFree l = holds_code l.text ≡ false

line_free : (l : Line) → IsLineFree l → IsRowFree (row_of_line l)
line_free l free left right =
    let cut = cut-keeps (λ t. holds_code t ≡ false) (λ n t h. part_free 0 n t h) drop_free left right (places_of l.text) (ap holds_code (characters-places l.text) ∙ free) in
    let k = trimmed (characters (cut_places left right (places_of l.text))) in
    ap holds_code k.1 ∙ part_free 0 k.0 _ cut

rows_free : (B : Block) → IsWithoutCode B → AreRowsFree (rows_of B)
rows_free B free = all_map IsLineFree IsRowFree row_of_line line_free B free

cell_free : (left : ℕ) (right : Option ℕ) (G : Grid) → AreRowsFree G → IsWithoutCode (cell_block left right G)
cell_free left right G free =
    let lines : Block = map (cell_line left right) G in
    all_map IsLineFree IsLineFree (shorten (least_indent lines)) (λ l h. drop_free (least_indent lines) l.text h) lines (all_map IsRowFree IsLineFree (cell_line left right) (λ r h. h left right) G free)

-- ---- the rule between head and body

not_code : (c : ℕ) (cs : List ℕ) → IsDash c → begins_code (c ∷ cs) ≡ false
unfolding begins_code
not_code c cs (inl is) = subst (λ d. begins_code (d ∷ cs) ≡ false) (sym is) refl
not_code c cs (inr is) = subst (λ d. begins_code (d ∷ cs) ≡ false) (sym is) refl

dashes_free : (t : List ℕ) → AllByRecursion IsDash t → holds_code t ≡ false
dashes_free [] h = refl
dashes_free (c ∷ cs) h = ap (λ b. b || holds_code cs) (not_code c cs h.0) ∙ dashes_free cs h.1

-- the last of six conditions
sixth : (a b c d e f : Bool) → (a && (b && (c && (d && (e && f))))) ≡ true → f ≡ true
sixth a b c d e f h = and_right e f (and_right d (e && f) (and_right c (d && (e && f)) (and_right b (c && (d && (e && f))) (and_right a (b && (c && (d && (e && f)))) h))))

rule_free : (l : Line) → is_head_rule (row_of_line l).places ≡ true → IsRowFree (dashed (row_of_line l))
unfolding is_head_rule
rule_free l rule left right =
    let row = places_of l.text in
    let t : List ℕ = characters (cut_places left right (map dash row)) in
    let k = trimmed t in
    let parts : consists_of 61 43 row ≡ true =
    sixth (nat_le 4 (length row)) (mark_at row 0 == 43) (mark_at row 1 == 61) (mark_at row (length row - 2) == 61) (mark_at row (length row - 1) == 43) (consists_of 61 43 row) rule in
    let all = cut-keeps (AllByRecursion IsDash) (λ n cs h. all_take IsDash n cs h) (λ n cs h. all_drop IsDash n cs h) left right (map dash row) (dashed-characters row parts) in
    ap holds_code k.1 ∙ dashes_free (take k.0 t) (all_take IsDash k.0 t all)

rule_at_free : (B : Block) (k : ℕ) → is_head_rule (row_at (rows_of B) k) ≡ true → IsRowFree (dashed (get_or (rows_of B) k no_row))
unfolding is_head_rule
rule_at_free [] k rule = absurd (true≢false (sym rule))
rule_at_free (l ∷ ls) zero rule = rule_free l rule
rule_at_free (l ∷ ls) (suc k) rule = rule_at_free ls k rule

-- the first place that passes
first_holds : (p : ℕ → Bool) (low n k : ℕ) → first_from p low n ≡ Some k → p k ≡ true
first_holds p low zero k found = absurd (true≢false (sym (ap is_some found)))
first_holds p low (suc n) k found = by (p low) refl found (λ later. first_holds p (low + 1) n k later)
  where
    by : (b : Bool) → p low ≡ b → cond b (Some low) (first_from p (low + 1) n) ≡ Some k → (first_from p (low + 1) n ≡ Some k → p k ≡ true) → p k ≡ true
    by true passes same others = subst (λ j. p j ≡ true) (ap (λ o. unwrap_or o 0) same) passes
    by false fails same others = others same

all_set : {A : Type 0} (P : A → Type 0) (k : ℕ) (y : A) (xs : List A) → P y → AllByRecursion P xs → AllByRecursion P (slice_set xs k y)
all_set P k y [] here h = tt
all_set P zero y (x ∷ xs) here h = (here, h.1)
all_set P (suc k) y (x ∷ xs) here h = (h.0, all_set P k y xs here h.1)

dashes_free_in : (B : Block) (head : Option ℕ) → head_of (rows_of B) ≡ head → IsWithoutCode B → AreRowsFree (with_dashes (rows_of B) head)
dashes_free_in B None found free = rows_free B free
dashes_free_in B (Some k) found free =
    let T : Grid = rows_of B in
    all_set IsRowFree k (dashed (get_or T k no_row)) T (rule_at_free B k (first_holds (λ j. is_head_rule (row_at T j)) 0 (length T - 0) k found)) (rows_free B free)

-- ---- tables

-- no call is in the lines of a cell
abbrev IsCellFree : Cell → Type 0
IsCellFree cell = IsWithoutCode cell.lines

table_free : (rows : List (List Cell)) → AllByRecursion (AllByRecursion IsCellFree) rows → AllByRecursion IsWithoutCode (map (λ (cell : Cell). cell.lines) (flat_map (λ (row : List Cell). row) rows))
table_free rows free = all_map IsCellFree IsWithoutCode (λ (cell : Cell). cell.lines) (λ cell h. h) (flat_map (λ (row : List Cell). row) rows) (all_flat (AllByRecursion IsCellFree) IsCellFree (λ row. row) (λ row h. h) rows free)

-- what holds where a value is there and where it isn't
either_way : {A : Type 0} (P : Option A → Type 0) → P None → ((x : A) → P (Some x)) → (o : Option A) → P o
either_way P none some None = none
either_way P none some (Some x) = some x

tiled_free : (line i : ℕ) (head : Option ℕ) (G : Grid) → AreRowsFree G → AllByRecursion IsWithoutCode (cell_blocks (tiled line i head G (tiling_of G)))
tiled_free line i head G free =
    either_way (λ tiling. AllByRecursion IsWithoutCode (cell_blocks (tiled line i head G tiling))) tt
    (λ rs.
    let places : List ℕ = range_with_len 0 (below (is_row G rs) (length G) - 1) in
    table_free (map (row_cells (below (is_row G rs)) (below (is_column G rs)) G rs) places) (all_made (AllByRecursion IsCellFree) (row_cells (below (is_row G rs)) (below (is_column G rs)) G rs) places (λ n.
    all_made IsCellFree (cell_of (below (is_row G rs)) (below (is_column G rs)) G) _ (λ r.
    cell_free (r.left + 1) (Some r.right) (take (r.bottom - (r.top + 1)) (drop (r.top + 1) G))
    (all_take IsRowFree (r.bottom - (r.top + 1)) (drop (r.top + 1) G) (all_drop IsRowFree (r.top + 1) G free))))))
    (tiling_of G)

grid_by_free : (line i : ℕ) (B : Block) (fault : Option TableDetail) → IsWithoutCode B → AllByRecursion IsWithoutCode (cell_blocks (grid_by line i (rows_of B) fault))
grid_by_free line i B (Some detail) free = tt
grid_by_free line i B None free =
    let T : Grid = rows_of B in
    tiled_free line i (head_of T) (with_dashes T (head_of T)) (dashes_free_in B (head_of T) refl free)

simple_by_free : (unmarked : Bool) (line i : ℕ) (head : Option ℕ) (T : Grid) (fault : Option TableDetail) → AreRowsFree T → AllByRecursion IsWithoutCode (cell_blocks (simple_by unmarked line i head T fault))
simple_by_free unmarked line i head T (Some detail) free = tt
simple_by_free unmarked line i head T None free =
    table_free (map (row_entries T) (simple_rows unmarked T)) (all_made (AllByRecursion IsCellFree) (row_entries T) (simple_rows unmarked T) (λ r.
    all_made IsCellFree (entry (lines_of_row T r) (row_spans T r)) _ (λ k.
    cell_free (span_of (row_spans T r) k).from (span_right (row_spans T r) k) (lines_of_row T r) (all_take IsRowFree (r.to - r.from) (drop r.from T) (all_drop IsRowFree r.from T free)))))

-- the lines of a table
lines_free : (n i : ℕ) (B : Block) → IsWithoutCode B → IsWithoutCode (take n (drop i B))
lines_free n i B free = all_take IsLineFree n (drop i B) (all_drop IsLineFree i B free)

-- no call is in the cells of a grid table
pub grid_cells_free : (B : Block) (i : ℕ) → IsWithoutCode B → AllByRecursion IsWithoutCode (cell_blocks (grid_table B i))
grid_cells_free B i free =
    let X : Block = drop i B in
    let lines : Block = take (grid_size X) X in
    grid_by_free (first_number X) i lines (grid_fault (grid_bottom X) (rows_of lines)) (lines_free (grid_size X) i B free)

-- no call is in the cells of a simple table
pub simple_cells_free : (B : Block) (i : ℕ) → IsWithoutCode B → AllByRecursion IsWithoutCode (cell_blocks (simple_table B i))
simple_cells_free B i free =
    let X : Block = drop i B in
    let T : Grid = rows_of (take (simple_size X) X) in
    simple_by_free (first_parts X).unmarked (first_number X) i (head_border X) T (simple_fault X T) (rows_free (take (simple_size X) X) (lines_free (simple_size X) i B free))
