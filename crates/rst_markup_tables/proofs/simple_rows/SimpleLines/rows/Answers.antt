use Rattle.std.proofs.Common.{ℕ, Bool, ◌+◌, ◌∙◌, ◌++◌, List, drop, get_or, append_assoc, append-nil, sym, ap, arith}
use Rattle.std.proofs.lemmas.List.{drop_more, drop_all}
use Rattle.rst_markup_tables.specs.Places.{Grid}
use Rattle.rst_markup_tables.specs.SimpleTable.{section_rows, sections}
use Rattle.rst_markup_tables.specs.declared.simple_rows.RowLines.{RowLines}
use Rattle.rst_markup_tables.proofs.SimpleLemmas.{sections_left, sections_left-more}
use Rattle.rst_markup_tables.proofs.simple_rows.SimpleLines.rows.Goals as goal

pub loop-rule-init : goal.loop-rule-init
loop-rule-init c = record { low = omega arith; rows = ap (λ l. l ++ sections c.args.self.now.unmarked c.args.self.now.lines.now c.args.rules.now) c.new-rows.ensures.items }

pub loop-rule-preserved : goal.loop-rule-preserved
loop-rule-preserved c =
    let T : Grid = c.args.self.now.lines.now in
    let low : ℕ = c.loop-rule.low in
    let rule : ℕ = get_or c.args.rules.now c.loop-rule.rule-index 0 in
    let rest : List ℕ = drop (c.loop-rule.rule-index + 1) c.args.rules.now in
    let old : List RowLines = c.loop-rule.rows.items in
    let unmarked : Bool = c.args.self.now.unmarked in
    let left = ap (sections_left unmarked T low) (drop_more c.args.rules.now c.loop-rule.rule-index 0 (omega arith)) ∙ sections_left-more unmarked T low rule rest c.loop-rule.invariant.low in
    record {
      low = omega arith;
      rows = ap (λ l. l ++ sections_left unmarked T (rule + 1) rest) c.in_ok-rows.ensures ∙ append_assoc old (section_rows unmarked T low rule) (sections_left unmarked T (rule + 1) rest) ∙ ap (λ l. old ++ l) (sym left) ∙ c.loop-rule.invariant.rows;
    }

pub returns : goal.returns
returns c =
    let none = drop_all c.loop-rule.rule-index c.args.rules.now (omega arith) in
    sym (append-nil c.loop-rule.rows.items) ∙ ap (λ l. c.loop-rule.rows.items ++ l) (sym (ap (sections_left c.args.self.now.unmarked c.args.self.now.lines.now c.loop-rule.low) none)) ∙ c.loop-rule.invariant.rows
