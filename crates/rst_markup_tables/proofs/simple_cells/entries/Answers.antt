use Rattle.std.proofs.Common.{◌≡◌, ◌∙◌, ◌++◌, ◌+◌, ◌-◌, ◌≤◌, ℕ, filter, length, sym, ap, ap₂, subst, arith, ◌∷◌, [], Option, rules}
use Rattle.rst_markup_tables.specs.Cells.{cell_block, reaches, reaching}
use Rattle.rst_markup_tables.specs.SimpleTable.{entry, span_right, span_of}
use Rattle.rst_markup_tables.specs.declared.spans.RuleSpan.{RuleSpan}
use Rattle.rst_text.specs.Block.{Block}
use Rattle.rst_markup_tables.specs.declared.results.Cell.{Cell}
use Rattle.rst_markup_tables.proofs.Lists.{each_from-more, onto}
use Rattle.rst_markup_tables.proofs.OrderLemmas.{order-before}
use Rattle.rst_markup_tables.proofs.Texts.{reaching-more}
use Rattle.rst_markup_tables.proofs.simple_cells.entries.Goals as goal

pub cell_lines-requires-clause-among : goal.cell_lines-requires-clause-among
cell_lines-requires-clause-among c =
    let left : ℕ = (span_of c.args.spans.now c.loop-k.k).from in
    c.deref.ensures.value ∙ c.in_ok-among-2.ensures
    ∙ ap (λ (s : RuleSpan). filter (reaches c.args.lines.now s.from) c.loop-k.among.items) c.span_of-span.ensures
    ∙ c.loop-k.invariant.among left (λ some. order-before c.loop-k.k c.args.spans.now c.requires.order some (omega arith))
    ∙ ap (λ (s : RuleSpan). reaching c.args.lines.now s.from) (sym c.span_of-span.ensures)

pub loop-k-preserved : goal.loop-k-preserved
loop-k-preserved c =
    let left : ℕ = (span_of c.args.spans.now c.loop-k.k).from in
    let step = each_from-more (entry c.args.lines.now c.args.spans.now) c.loop-k.k (length c.args.spans.now) (omega arith) in
    let found = c.in_ok-among-2.ensures ∙ ap (λ (s : RuleSpan). filter (reaches c.args.lines.now s.from) c.loop-k.among.items) c.span_of-span.ensures in
    let right : c.then_some-right.result ≡ span_right c.args.spans.now c.loop-k.k = search rules in
    let lines : c.in_ok-lines.lines ≡ cell_block left (span_right c.args.spans.now c.loop-k.k) c.args.lines.now =
    c.in_ok-lines.ensures ∙ ap₂ (λ (s : RuleSpan) (right : Option ℕ). cell_block s.from right c.args.lines.now) c.span_of-span.ensures right in
    let more : c.saturating_sub.result ≡ (span_of c.args.spans.now c.loop-k.k).columns - 1 = c.saturating_sub.ensures ∙ ap (λ (s : RuleSpan). s.columns - 1) c.span_of-span.ensures in
    let one = ap₂ (λ n (lines : Block). let cell : Cell = record { morerows = 0; morecols = n; lines = lines } in cell) more lines in
    let same_place : c.loop-k.k + 1 - 1 ≡ c.loop-k.k = omega arith in
    record {
      cells = onto _ _ _ _ (entry c.args.lines.now c.args.spans.now c.loop-k.k) (c.in_ok-push.ensures.items ∙ ap (λ x. c.loop-k.cells.items ++ x ∷ []) one)
          (sym (ap (λ l. c.loop-k.cells.items ++ l) step) ∙ c.loop-k.invariant.cells);
      among = λ n above.
          let later : left ≤ n = subst (λ k. (span_of c.args.spans.now k).from ≤ n) same_place (above (omega arith)) in
          ap (filter (reaches c.args.lines.now n)) found ∙ reaching-more c.args.lines.now left n _ later
          ∙ c.loop-k.invariant.among n (λ some. omega (arith, later, order-before c.loop-k.k c.args.spans.now c.requires.order some (omega arith)));
    }
