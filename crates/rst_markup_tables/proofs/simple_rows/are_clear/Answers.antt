use Rattle.std.proofs.Common.{◌∙◌, ◌-◌, List, length, take, drop, sym, arith}
use Rattle.rst_markup_tables.specs.declared.spans.RuleSpan.{RuleSpan}
use Rattle.rst_markup_tables.proofs.OrderLemmas.{are_clear-past}
use Rattle.rst_markup_tables.proofs.simple_rows.are_clear.Goals as goal

pub returns-then-before-row : goal.returns-then-before-row
returns-then-before-row c =
    let rest : List RuleSpan = drop c.loop-span.span-index (take (length c.args.spans.now - 1) (drop 1 c.args.spans.now)) in
    sym (are_clear-past c.args.row.now 0 c.loop-span.before rest c.loop-span.invariant.order (omega arith)) ∙ c.loop-span.invariant.clear
