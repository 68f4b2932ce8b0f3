use Rattle.std.proofs.Common.{◌≡◌, ◌∙◌, true, false, ℕ, unwrap_or, length, ap, rules}
use borrow.Author.Tests.{tests}
use Rattle.std.proofs.lemmas.Iterator.{first_from_Range}
use Rattle.rst_markup_tables.specs.SimpleTable.{is_space}
use Rattle.rst_markup_tables.specs.declared.spans.RuleSpan.{RuleSpan}
use Rattle.rst_markup_tables.proofs.Lists.{first_from-found}
use Rattle.rst_markup_tables.proofs.spans.span_at.Goals as goal

pub returns : goal.returns
returns c =
    let found = first_from-found (is_space c.args.row.now) c.args.from (length c.args.row.now) _
    (first_from_Range _ _ _ _ (λ k. is_space c.args.row.now k ≡ true) (λ k. is_space c.args.row.now k ≡ false) c.find-end.ensures.ran (λ x q k. search (rules, tests)) (λ x q k. search (rules, tests))) in
    ap (λ (to : ℕ). let span : RuleSpan = record { from = c.args.from; to = to; columns = 1 } in span) (c.unwrap_or.ensures ∙ ap (λ o. unwrap_or o (length c.args.row.now)) found)
