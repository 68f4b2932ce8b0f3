use Rattle.std.proofs.Common.{◌≡◌, ◌++◌, drop, option_map}
use Rattle.rst_markup_tables.specs.SimpleTable.{spans_with_columns, rule_spans}
use Rattle.rst_markup_tables.proofs.simple_rows.SimpleLines.rule_spans.Given as goal

abbrev pub invariant-loop-span : goal.invariant-loop-span
invariant-loop-span l = option_map (λ rest. l.wide.items ++ rest) (spans_with_columns l.left (drop l.span-index l.span-items)) ≡ rule_spans l.self.lines.now l.rule
