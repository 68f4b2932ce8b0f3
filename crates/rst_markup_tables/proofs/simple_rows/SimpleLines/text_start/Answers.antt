use Rattle.std.proofs.Common.{◌≡◌, true, false, not, rules}
use borrow.Author.Tests.{tests}
use Rattle.std.proofs.lemmas.Iterator.{first_from_Range}
use Rattle.rst_markup_tables.specs.Places.{row_at}
use Rattle.rst_markup_tables.specs.SimpleTable.{is_empty_row}
use Rattle.rst_markup_tables.proofs.Lists.{first_from-found}
use Rattle.rst_markup_tables.proofs.simple_rows.SimpleLines.text_start.Goals as goal

pub returns-clause-value : goal.returns-clause-value
returns-clause-value c =
    first_from-found (λ k. not (is_empty_row (row_at c.args.self.now.lines.now k))) c.args.low c.args.end _
    (first_from_Range _ _ _ _ (λ k. not (is_empty_row (row_at c.args.self.now.lines.now k)) ≡ true) (λ k. not (is_empty_row (row_at c.args.self.now.lines.now k)) ≡ false) c.find.ensures.ran (λ x q k. search (rules, tests)) (λ x q k. search (rules, tests)))
