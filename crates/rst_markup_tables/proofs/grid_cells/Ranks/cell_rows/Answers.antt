use Rattle.std.proofs.Common.{◌≡◌, ℕ, ◌-◌, ◌<◌, ◌++◌, ◌∷◌, [], List, Vec, Global, vec_items, length, get_or, set, map, sym, ap, ◌∙◌, arith}
use Rattle.std.proofs.lemmas.List.{get_or-map, map-set, length-map, length-set, take_all}
use Rattle.std.proofs.lemmas.List.FromFn.{fill_by_all}
use Rattle.rst_markup_tables.specs.Counts.{below}
use Rattle.rst_markup_tables.specs.GridTable.{is_row, is_column, row_cells}
use Rattle.rst_markup_tables.specs.Places.{Grid}
use Rattle.rst_markup_tables.specs.declared.drawn.Rectangle.{Rectangle}
use Rattle.rst_markup_tables.specs.declared.results.Cell.{Cell}
use Rattle.rst_markup_tables.proofs.RowLemmas.{cell_more}
use Rattle.rst_markup_tables.proofs.grid_cells.Ranks.cell_rows.Goals as goal

pub loop-rectangle-preserved : goal.loop-rectangle-preserved
loop-rectangle-preserved c =
    let d : Rectangle = record { top = 0; left = 0; bottom = 0; right = 0 } in
    let G : Grid = c.args.self.now.tiling.lines.now in
    let rs : List Rectangle = c.args.self.now.tiling.rectangles.now in
    let rows : List (Vec Cell Global) = c.loop-rectangle.rows.items in
    let m : ℕ = c.row-in-loop-rectangle.result in
    let within : m < length rows = omega (arith, c.args.self.now.tiling.in_rows c.loop-rectangle.rectangle-index d (omega arith)) in
    let cell_row : c.index_mut.result.now.items ≡ get_or (map vec_items rows) m [] =
    sym (get_or-map vec_items rows m c.index_mut.result.now [] within ∙ ap (λ (v : Vec Cell Global). v.items) (sym c.index_mut.ensures.value)) in
    let now : map vec_items (set rows m c.push-in-loop-rectangle.new.self) ≡ set (map vec_items rows) m (get_or (map vec_items rows) m [] ++ c.in_ok-cell.cell ∷ []) =
    map-set vec_items rows m c.push-in-loop-rectangle.new.self ∙ ap (λ l. set (map vec_items rows) m l) (c.in_ok-push-2.ensures.items ∙ ap (λ l. l ++ c.in_ok-cell.cell ∷ []) cell_row) in
    record {
      size = length-set rows m c.push-in-loop-rectangle.new.self ∙ c.loop-rectangle.invariant.size;
      at = λ n inside. ap (λ l. get_or l n []) now ∙ cell_more (below (is_row G rs)) (below (is_column G rs)) G rs c.loop-rectangle.rectangle-index d (map vec_items rows) m c.in_ok-cell.cell
          (omega arith) c.row-in-loop-rectangle.ensures (omega (arith, length-map rows vec_items)) c.in_ok-cell.ensures n (c.loop-rectangle.invariant.at n inside);
    }

pub returns : goal.returns
returns c =
    let G : Grid = c.args.self.now.tiling.lines.now in
    let rs : List Rectangle = c.args.self.now.tiling.rectangles.now in
    let rows : List (Vec Cell Global) = c.loop-rectangle.rows.items in
    let cells : ℕ → List Cell = row_cells (below (is_row G rs)) (below (is_column G rs)) G rs in
    let count : c.saturating_sub-count.result ≡ below (is_row G rs) (length G) - 1 = omega arith in
    fill_by_all cells (map vec_items rows) (below (is_row G rs) (length G) - 1) [] (length-map rows vec_items ∙ c.loop-rectangle.invariant.size ∙ count)
    (λ n inside. c.loop-rectangle.invariant.at n (omega arith) ∙ ap (λ qs. row_cells (below (is_row G rs)) (below (is_column G rs)) G qs n) (take_all c.loop-rectangle.rectangle-index rs (omega arith)))
