use Rattle.std.proofs.Common.{◌≡◌, ◌++◌, ◌+◌}
use Rattle.rst_markup_tables.proofs.SimpleLemmas.{rows_left}
use Rattle.rst_markup_tables.proofs.simple_rows.SimpleLines.with_section.Given as goal

abbrev pub invariant-loop-to : goal.invariant-loop-to
invariant-loop-to l = l.rows.items ++ rows_left l.self.lines.now l.from l.to l.rule ≡ l.initial.rows.items ++ rows_left l.self.lines.now l.begin (l.begin + 1) l.rule
