use Rattle.std.proofs.Common.{◌∙◌, sym, subst, get_or}
use Rattle.rst_markup_tables.specs.SimpleTable.{AreInOrder, row_lines}
use Rattle.rst_markup_tables.proofs.OrderLemmas.{row_spans-order}
use Rattle.rst_markup_tables.proofs.simple_rows.SimpleLines.all_entries.Goals as goal

pub entries-requires-clause-order : goal.entries-requires-clause-order
entries-requires-clause-order c =
    subst (AreInOrder 0) (sym (c.deref-in-loop-row.ensures.value ∙ c.in_ok-spans.ensures)) (row_spans-order c.args.self.now.lines.now (get_or c.args.rows.now c.loop-row.row-index (row_lines 0 0 0)))

pub text_in_margin-requires : goal.text_in_margin-requires
text_in_margin-requires c =
    subst (AreInOrder 0) (sym (c.deref.ensures.value ∙ c.in_ok-spans.ensures)) (row_spans-order c.args.self.now.lines.now (get_or c.args.rows.now c.loop-row.row-index (row_lines 0 0 0)))
