use Rattle.std.proofs.Common.{◌+◌}
use Rattle.rst_text.specs.Places.{NoneFrom}
use Rattle.rst_markup_tables.specs.Drawn.{has_bottom}
use Rattle.rst_markup_tables.proofs.drawn.Runs.drawn_from.Given as goal

abbrev pub invariant-loop-right : goal.invariant-loop-right
invariant-loop-right l = NoneFrom (has_bottom l.self.rows.now l.top l.left) (l.left + 1) l.right
