use Rattle.std.proofs.Common.{◌≡◌, ℕ, ◌+◌, ◌∙◌, ◌++◌, List, Some, drop, get_or, option_map, sym, ap, arith}
use Rattle.std.proofs.lemmas.List.{drop_more}
use Rattle.rst_markup_tables.specs.SimpleTable.{last_joined, spans_with_columns, no_span}
use Rattle.rst_markup_tables.specs.declared.spans.RuleSpan.{RuleSpan}
use Rattle.rst_markup_tables.proofs.SimpleLemmas.{spread_more}
use Rattle.rst_markup_tables.proofs.simple_rows.SimpleLines.rule_spans.Goals as goal

pub loop-span-preserved : goal.loop-span-preserved
loop-span-preserved c =
    let n : ℕ = c.loop-span.span-index in
    let s : RuleSpan = get_or c.deref-span-items.result.now n no_span in
    let rest : List RuleSpan = drop (n + 1) c.deref-span-items.result.now in
    let joined : last_joined c.loop-span.left.now s ≡ Some c.in-Some.last = sym c.last_joined.ensures.value ∙ c.in-Some.is in
    ap (λ (l : List RuleSpan). option_map (λ others. c.push.new.self.items ++ others) (spans_with_columns l rest)) c.spans_after-left.ensures
    ∙ spread_more c.loop-span.wide.items c.push.new.self.items c.loop-span.left.now s rest c.in-Some.last joined c.in_ok-push.ensures.items
    ∙ sym (ap (λ (l : List RuleSpan). option_map (λ others. c.loop-span.wide.items ++ others) (spans_with_columns c.loop-span.left.now l)) (drop_more c.deref-span-items.result.now n no_span (omega arith)))
    ∙ c.loop-span.invariant
