use Rattle.std.proofs.Common.{◌≡◌, true, false, rules}
use borrow.Author.Tests.{tests}
use Rattle.std.proofs.lemmas.Iterator.{first_from_Range}
use Rattle.rst_markup_tables.specs.SimpleTable.{begins_row}
use Rattle.rst_markup_tables.proofs.Lists.{first_from-found}
use Rattle.rst_markup_tables.proofs.simple_rows.SimpleLines.row_start.Goals as goal

pub returns-clause-value : goal.returns-clause-value
returns-clause-value c =
    first_from-found (begins_row c.args.self.now.lines.now) c.args.low c.args.end _
    (first_from_Range _ _ _ _ (λ k. begins_row c.args.self.now.lines.now k ≡ true) (λ k. begins_row c.args.self.now.lines.now k ≡ false) c.find.ensures.ran (λ x q k. search (rules, tests)) (λ x q k. search (rules, tests)))
