use Rattle.std.proofs.Common.{◌≡◌, true, false, not, rules}
use borrow.Author.Tests.{tests}
use Rattle.std.proofs.lemmas.Iterator.{first_from_Range}
use Rattle.rst_markup_tables.specs.Places.{row_at}
use Rattle.rst_markup_tables.specs.SimpleTable.{are_clear}
use Rattle.rst_markup_tables.proofs.Lists.{first_from-found}
use Rattle.rst_markup_tables.proofs.simple_rows.SimpleLines.text_in_margin.Goals as goal

pub returns-clause-value : goal.returns-clause-value
returns-clause-value c =
    first_from-found (λ k. not (are_clear c.args.spans.now (row_at c.args.self.now.lines.now k))) c.args.row.from c.args.row.to _
    (first_from_Range _ _ _ _ (λ k. not (are_clear c.args.spans.now (row_at c.args.self.now.lines.now k)) ≡ true) (λ k. not (are_clear c.args.spans.now (row_at c.args.self.now.lines.now k)) ≡ false) c.find.ensures.ran (λ x q k. search (rules, tests)) (λ x q k. search (rules, tests)))
