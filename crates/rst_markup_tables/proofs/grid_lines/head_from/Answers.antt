use Rattle.std.proofs.Common.{◌≡◌, true, false, length, rules}
use borrow.Author.Tests.{tests}
use Rattle.std.proofs.lemmas.Iterator.{first_from_Range}
use Rattle.rst_markup_tables.specs.Places.{row_at}
use Rattle.rst_markup_tables.specs.GridTable.{is_head_rule}
use Rattle.rst_markup_tables.proofs.Lists.{first_from-found}
use Rattle.rst_markup_tables.proofs.grid_lines.head_from.Goals as goal

pub returns-clause-value : goal.returns-clause-value
unfolding is_head_rule
returns-clause-value c =
    first_from-found (λ k. is_head_rule (row_at c.args.lines.now k)) c.args.low (length c.args.lines.now) _
    (first_from_Range _ _ _ _ (λ k. is_head_rule (row_at c.args.lines.now k) ≡ true) (λ k. is_head_rule (row_at c.args.lines.now k) ≡ false) c.find.ensures.ran (λ x q k. search (rules, tests)) (λ x q k. search (rules, tests)))
