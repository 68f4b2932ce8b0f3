use Rattle.std.proofs.Common.{◌≡◌, ◌+◌, ◌-◌, true}
use Rattle.rst_text.specs.Places.{all_from, NoneFrom}
use Rattle.rst_markup_tables.specs.Drawn.{are_upright, is_frame}
use Rattle.rst_markup_tables.proofs.drawn.Runs.bottom.Given as goal

abbrev pub invariant-loop-row : goal.invariant-loop-row
invariant-loop-row l = record {
  sides : all_from (are_upright l.self.rows.now l.left l.right) l.top (l.row - l.top) ≡ true;
  none : NoneFrom (is_frame l.self.rows.now l.top l.left l.right) (l.top + 1) l.row;
}
