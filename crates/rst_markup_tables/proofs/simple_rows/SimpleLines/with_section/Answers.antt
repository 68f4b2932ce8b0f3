use Rattle.std.proofs.Common.{◌∙◌, ◌++◌, sym, ap, arith, rules}
use Rattle.rst_markup_tables.specs.SimpleTable.{row_lines}
use Rattle.rst_markup_tables.proofs.Lists.{onto}
use Rattle.rst_markup_tables.proofs.SimpleLemmas.{rows_left-take, rows_left-more}
use Rattle.rst_markup_tables.proofs.simple_rows.SimpleLines.with_section.Goals as goal

pub loop-to-preserved-then-begins_row : goal.loop-to-preserved-then-begins_row
loop-to-preserved-then-begins_row c =
    let step = rows_left-take c.args.self.now.lines.now c.loop-to.from c.loop-to.to c.args.rule (omega arith) (search rules) in
    onto _ _ _ _ (row_lines c.loop-to.from c.loop-to.to 0) c.in_ok-push.ensures.items (sym (ap (λ l. c.loop-to.rows.items ++ l) step) ∙ c.loop-to.invariant)

pub loop-to-preserved : goal.loop-to-preserved
loop-to-preserved c =
    let step = rows_left-more c.args.self.now.lines.now c.loop-to.from c.loop-to.to c.args.rule (omega arith) (search rules) in
    sym (ap (λ l. c.loop-to.rows.items ++ l) step) ∙ c.loop-to.invariant
