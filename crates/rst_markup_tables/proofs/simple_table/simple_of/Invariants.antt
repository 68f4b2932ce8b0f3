use Rattle.std.proofs.Common.{◌≡◌, drop}
use Rattle.std.specs.Prelude.{find}
use Rattle.rst_markup_tables.specs.SimpleTable.{is_unaligned, rules_of}
use Rattle.rst_markup_tables.proofs.simple_table.simple_of.Given as goal

abbrev pub invariant-loop-rule : goal.invariant-loop-rule
invariant-loop-rule l = find (is_unaligned l.lines) (drop l.rule-index l.rule-items) ≡ find (is_unaligned l.lines) (rules_of l.lines)
