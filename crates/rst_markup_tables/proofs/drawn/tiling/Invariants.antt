use Rattle.std.proofs.Common.{◌≡◌, ℕ, ◌<◌, ◌≤◌, ◌++◌, length, get_or, map, drop}
use Rattle.std.specs.Prelude.{vec_items}
use Rattle.rst_markup_tables.specs.Search.{begins_of}
use Rattle.rst_markup_tables.proofs.Scan.{Stands}
use Rattle.rst_markup_tables.proofs.drawn.tiling.Given as goal

abbrev pub invariant-loop-top : goal.invariant-loop-top
invariant-loop-top l = Stands l.rows l.top 0 l.depths.items l.rectangles.items

abbrev pub invariant-loop-left : goal.invariant-loop-left
invariant-loop-left l = Stands l.rows l.top l.left l.depths.items l.rectangles.items

abbrev pub invariant-loop-line : goal.invariant-loop-line
invariant-loop-line l = map vec_items l.begins.items ++ map begins_of (drop l.line-index l.rows) ≡ map begins_of l.rows

abbrev pub invariant-loop-column : goal.invariant-loop-column
invariant-loop-column l = record {
  size : length l.depths.items ≡ length l.initial.depths.items;
  done : (k : ℕ) → l.rectangle.left ≤ k → k < l.column → (get_or l.initial.depths.items k 0 ≡ l.rectangle.top) × (get_or l.depths.items k 0 ≡ l.rectangle.bottom);
  kept : (k : ℕ) → (l.rectangle.left ≤ k → k < l.column → ⊥) → get_or l.depths.items k 0 ≡ get_or l.initial.depths.items k 0;
}
