use Rattle.std.proofs.Common.{ℕ, Bool, false, List, filter, map, vec_items, get_or, length, subst, ap, ap₂, ◌∙◌}
use Rattle.std.specs.List.{range_with_len}
use Rattle.rst_markup_tables.specs.Counts.{below}
use Rattle.rst_markup_tables.specs.GridTable.{is_row, column_widths, head_size, gaps}
use Rattle.rst_markup_tables.specs.Marks.{AreRanks}
use Rattle.rst_markup_tables.specs.Places.{Grid}
use Rattle.rst_markup_tables.specs.declared.drawn.Rectangle.{Rectangle}
use Rattle.rst_markup_tables.specs.declared.results.Cell.{Cell}
use Rattle.rst_markup_tables.specs.declared.results.TableResult.TheVariants.{Table}
use Rattle.rst_markup_tables.proofs.RowLemmas.{ranks_of, widths_of}
use Rattle.rst_markup_tables.proofs.bounds.Tiling.tiled.Goals as goal

pub invariant_of-ranks : goal.invariant_of-ranks
invariant_of-ranks c = record {
  row_ranks = ranks_of _ _ _ _ c.in_ok-row_bounds.ensures.rows
      (subst (λ (marks : List Bool). AreRanks (below (λ k. get_or marks k false)) (length marks) c.in_ok-ranks.field-0.items) c.deref-3.ensures.value c.in_ok-ranks.ensures);
  column_ranks = ranks_of _ _ _ _ c.in_ok-row_bounds.ensures.columns
      (subst (λ (marks : List Bool). AreRanks (below (λ k. get_or marks k false)) (length marks) c.in_ok-ranks-2.field-0.items) c.deref-4.ensures.value c.in_ok-ranks-2.ensures);
}

pub returns : goal.returns
returns c =
    let G : Grid = c.args.self.now.lines.now in
    let rs : List Rectangle = c.args.self.now.rectangles.now in
    let bounds = c.in_ok-bounds.ensures ∙ ap (λ (marks : List Bool). filter (λ k. get_or marks k false) (range_with_len 0 (length marks))) c.deref.ensures.value in
    let widths = c.in_ok-widths.ensures ∙ ap gaps (c.deref-2.ensures.value ∙ bounds) ∙ widths_of G rs c.in_ok-row_bounds.column_bounds.items c.in_ok-row_bounds.ensures.columns in
    ap₂ (λ (w : List ℕ) (h : ℕ). Table w h (map vec_items c.in_ok-rows.rows.items) c.args.end) widths c.head_size.ensures
    ∙ ap (λ (all : List (List Cell)). Table (column_widths G rs) (head_size (below (is_row G rs)) c.args.head) all c.args.end) c.in_ok-rows.ensures
