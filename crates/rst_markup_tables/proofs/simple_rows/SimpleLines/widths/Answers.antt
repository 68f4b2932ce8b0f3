use Rattle.std.proofs.Common.{◌∙◌, ℕ, List, length, map, ap}
use Rattle.std.specs.List.{range_with_len}
use Rattle.rst_markup_tables.specs.Places.{Grid}
use Rattle.rst_markup_tables.specs.SimpleTable.{longest_of, simple_rows, width_of}
use Rattle.rst_markup_tables.specs.declared.spans.RuleSpan.{RuleSpan}
use Rattle.rst_markup_tables.proofs.simple_rows.SimpleLines.widths.Goals as goal

pub returns : goal.returns
returns c =
    let lines : Grid = c.args.self.now.lines.now in
    let columns : List RuleSpan = c.args.self.now.columns.now in
    c.in_ok-widths.ensures
    ∙ ap (λ (m : ℕ). map (width_of columns m) (range_with_len 0 (length columns))) (c.longest_of-longest.ensures ∙ ap (longest_of lines) c.requires)
    ∙ ap (λ (cs : List RuleSpan). map (width_of cs (longest_of lines (simple_rows c.args.self.now.unmarked lines))) (range_with_len 0 (length cs))) c.args.self.now.are_columns
