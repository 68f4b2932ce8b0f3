use Rattle.std.proofs.Common.{◌≡◌, ◌≤◌, ◌++◌, drop}
use Rattle.rst_markup_tables.specs.SimpleTable.{sections}
use Rattle.rst_markup_tables.proofs.SimpleLemmas.{sections_left}
use Rattle.rst_markup_tables.proofs.simple_rows.SimpleLines.rows.Given as goal

abbrev pub invariant-loop-rule : goal.invariant-loop-rule
invariant-loop-rule l = record {
  low : 1 ≤ l.low;
  rows : l.rows.items ++ sections_left l.self.unmarked l.self.lines.now l.low (drop l.rule-index l.rules) ≡ sections l.self.unmarked l.self.lines.now l.rules;
}
