-- Simple tables: what can be wrong with their lines, and what is in them (Markup Specification, 'Simple Tables'). Which
-- lines they are is determined by the row of the table of constructs.
use Rattle.std.specs.Prelude.{ℕ, ◌+◌, ◌-◌, ◌≤◌, max, Bool, true, false, not, ◌&&◌, ◌||◌, ◌==◌, nat_le, List, [], ◌∷◌, ◌++◌, Option, Some, None, is_some, if◌then◌else◌, get_or, length, take, drop, slice_range, map, fold, count_by, unwrap_or, option_map, option_and_then, flat_map, filter, find, position}
use Rattle.std.specs.Char.{is_whitespace}
use Rattle.std.specs.List.{list_all, range_with_len}
use Rattle.std.specs.Option.{option_or}
use Rattle.rst_text.specs.Block.{Block, first_number, first_parts}
use Rattle.rst_markup_tables.specs.Places.{Grid, rows_of, row_at, consists_of, mark_at}
use Rattle.rst_text.specs.Places.{first_from}
use Rattle.rst_markup_blocks.specs.TableRows.{is_as_long, head_border, simple_bottom, simple_size}
use Rattle.rst_markup_tables.specs.Neighbours.{neighbours}
use Rattle.rst_markup_tables.specs.Cells.{cell_block}
use Rattle.rst_markup_tables.specs.GridTable.{malformed}
use Rattle.rst_markup_tables.specs.declared.places.Place.{Place}
use Rattle.rst_markup_tables.specs.declared.places.Place.TheVariants.{Character, Second}
use Rattle.rst_markup_tables.specs.declared.spans.RuleSpan.{RuleSpan}
use Rattle.rst_markup_tables.specs.declared.simple_rows.RowLines.{RowLines}
use Rattle.rst_markup_tables.specs.declared.results.Cell.{Cell}
use Rattle.rst_markup_tables.specs.declared.results.TableDetail.{TableDetail}
use Rattle.rst_markup_tables.specs.declared.results.TableDetail.TheVariants.{BorderMismatch, BottomMissing, ColumnSpan, Margin}
use Rattle.rst_markup_tables.specs.declared.results.TableResult.{TableResult}
use Rattle.rst_markup_tables.specs.declared.results.TableResult.TheVariants.{Table}

-- ---- lines

-- it begins with the mark, and holds only the mark and spaces
unfoldable pub is_ruled : ℕ → List Place → Bool
is_ruled mark row = mark_at row 0 == mark && consists_of mark 32 row

-- a border of `=` and spaces, or a span rule of `-` and spaces
unfoldable pub is_rule : List Place → Bool
is_rule row = is_ruled 61 row || is_ruled 45 row

-- a row has no places: its line is blank, or there is no such line
abbrev pub is_empty_row : List Place → Bool
is_empty_row row = length row == 0

-- ---- columns

-- a space is at the place
abbrev pub is_space : List Place → ℕ → Bool
is_space row k = mark_at row k == 32

-- a run of marks begins
unfoldable pub begins_span : List Place → ℕ → Bool
begins_span row k = not (is_space row k) && (k == 0 || is_space row (k - 1))

-- where the run ends that begins there
abbrev pub span_end : List Place → ℕ → ℕ
span_end row k = unwrap_or (first_from (is_space row) k (length row - k)) (length row)

-- the run that begins there, as a span of one column
abbrev pub span_at : List Place → ℕ → RuleSpan
span_at row k = record { from = k; to = span_end row k; columns = 1 }

-- Each span begins no earlier than the one before it, the first of which at `low` or later, and ends no earlier than it
-- begins.
abbrev pub AreInOrder : ℕ → List RuleSpan → Type 0
AreInOrder low [] = Unit {0}
AreInOrder low (s ∷ ss) = (low ≤ s.from) × (s.from ≤ s.to) × AreInOrder s.from ss

-- the runs of marks in a rule
abbrev pub spans_of : List Place → List RuleSpan
spans_of row = map (span_at row) (filter (begins_span row) (range_with_len 0 (length row)))

-- the columns of the table: the runs of the top border
abbrev pub columns_of : Grid → List RuleSpan
columns_of T = spans_of (row_at T 0)

-- The place, in the list of columns, of the last that a span joins: the span begins where the first of them does, and ends
-- where this one does. There is none where no columns lie so.
abbrev pub last_joined : List RuleSpan → RuleSpan → Option ℕ
last_joined [] s = None
last_joined (c ∷ cs) s = if c.from == s.from then position (λ d. d.to == s.to) (c ∷ cs) else None

-- a span with how many columns it joins
abbrev pub joining : RuleSpan → ℕ → RuleSpan
joining s n = record { from = s.from; to = s.to; columns = n }

-- no span is needed more when no column is left; else there are spans too few
abbrev pub no_more : List RuleSpan → Option (List RuleSpan)
no_more [] = Some []
no_more (c ∷ cs) = None

-- Spans with how many columns each joins. They have to join all columns, each those after the ones that the span before
-- it joins.
abbrev pub spans_with_columns : List RuleSpan → List RuleSpan → Option (List RuleSpan)
spans_with_columns columns [] = no_more columns
spans_with_columns columns (s ∷ ss) = option_and_then (λ last. option_map (λ others. joining s (last + 1) ∷ others) (spans_with_columns (drop (last + 1) columns) ss)) (last_joined columns s)

-- the spans of a row that is a rule
abbrev pub rule_spans : Grid → ℕ → Option (List RuleSpan)
rule_spans T k = spans_with_columns (columns_of T) (spans_of (row_at T k))

-- the rules below the top border: span rules, the border that closes the head and the last border
abbrev pub rules_of : Grid → List ℕ
rules_of T = filter (λ k. is_rule (row_at T k)) (range_with_len 1 (length T - 1))

-- the spans of a rule don't cover the columns
abbrev pub is_unaligned : Grid → ℕ → Bool
is_unaligned T k = not (is_some (rule_spans T k))

-- ---- rows

-- a white character; the second place of a wide one isn't blank
unfoldable pub is_white_place : Place → Bool
is_white_place (Character c) = is_whitespace c
is_white_place Second = false

-- there is nothing but white from one place up to another
abbrev pub is_clear : ℕ → ℕ → List Place → Bool
is_clear from to row = list_all is_white_place (take (to - from) (drop from row))

-- a span of nothing
abbrev pub no_span : RuleSpan
no_span = record { from = 0; to = 0; columns = 0 }

-- a line begins a row: its first column isn't blank
abbrev pub begins_row : Grid → ℕ → Bool
begins_row T k = let column = get_or (columns_of T) 0 no_span in not (is_clear column.from column.to (row_at T k))

-- the lines of a row, from one place up to another, with the rule that gives its columns
abbrev pub row_lines : ℕ → ℕ → ℕ → RowLines
row_lines from to rule = record { from = from; to = to; rule = rule }

-- Where the rows begin in the lines before a rule, the first of them at line `start`: there, and at each line after it whose
-- first column isn't blank.
abbrev pub row_places : Grid → ℕ → ℕ → List ℕ
row_places T start rule = start ∷ filter (begins_row T) (range_with_len (start + 1) (rule - (start + 1)))

-- The row between two places. One that ends at a rule has its columns; one that ends where the next begins has those of the
-- top border, line 0.
abbrev pub row_between : ℕ → ℕ × ℕ → RowLines
row_between rule p = row_lines p.0 p.1 (if p.1 == rule then rule else 0)

-- the rows before a rule, each from where it begins up to the next, if there is a first one
abbrev pub rows_from : Grid → ℕ → Option ℕ → List RowLines
rows_from T rule None = []
rows_from T rule (Some start) = map (row_between rule) (neighbours (row_places T start rule ++ rule ∷ []))

-- Where the first row of the lines from `low` on before a rule begins: at the first line that isn't blank, if there is one. Under the part `unmarked`, it
-- begins at the first line whose first column isn't blank, and the lines before that are in no row; without one, it is a row of no lines, at the rule.
abbrev pub first_row : Bool → Grid → ℕ → ℕ → Option ℕ
first_row true T low rule = Some (unwrap_or (first_from (begins_row T) low (rule - low)) rule)
first_row false T low rule = first_from (λ k. not (is_empty_row (row_at T k))) low (rule - low)

-- the rows of the lines from `low` on before a rule
abbrev pub section_rows : Bool → Grid → ℕ → ℕ → List RowLines
section_rows unmarked T low rule = rows_from T rule (first_row unmarked T low rule)

-- the rows of the lines between the top border, line 0, and the first of some rules, and between each of these and the next
abbrev pub sections : Bool → Grid → List ℕ → List RowLines
sections unmarked T rules = flat_map (λ (p : ℕ × ℕ). section_rows unmarked T (p.0 + 1) p.1) (neighbours (0 ∷ rules))

-- the rows of a table: its lines below the top border, cut at its rules
abbrev pub simple_rows : Bool → Grid → List RowLines
simple_rows unmarked T = sections unmarked T (rules_of T)

-- the spans of a row: those of the rule that ends it, or the columns of the table
abbrev pub row_spans : Grid → RowLines → List RuleSpan
row_spans T r = if r.rule == 0 then columns_of T else unwrap_or (rule_spans T r.rule) []

-- there is nothing but white between neighbouring spans
abbrev pub are_clear : List RuleSpan → List Place → Bool
are_clear spans row = list_all (λ (p : RuleSpan × RuleSpan). is_clear p.0.to p.1.from row) (neighbours spans)

-- the first line of a row with text between its columns
abbrev pub text_in_margin : Grid → List RuleSpan → ℕ → ℕ → Option ℕ
text_in_margin T spans from to = first_from (λ k. not (are_clear spans (row_at T k))) from (to - from)

-- the first such line of all rows
abbrev pub first_in_margin : Grid → List RowLines → Option ℕ
first_in_margin T [] = None
first_in_margin T (r ∷ rs) = option_or (text_in_margin T (row_spans T r) r.from r.to) (first_in_margin T rs)

-- ---- widths and cells

-- the lines of a row
abbrev pub lines_of_row : Grid → RowLines → Grid
lines_of_row T r = slice_range T r.from r.to

-- how many places the longest line of the rows has, 0 where there are none
abbrev pub longest_of : Grid → List RowLines → ℕ
longest_of T rows = fold max 0 (map (λ line. length line.places) (flat_map (lines_of_row T) rows))

-- the k-th span
abbrev pub span_of : List RuleSpan → ℕ → RuleSpan
span_of spans k = get_or spans k no_span

-- A column is as wide as its part of the top border; the last is as wide as its longest line, if that is wider.
abbrev pub width_of : List RuleSpan → ℕ → ℕ → ℕ
width_of columns widest k = let c = span_of columns k in
    if k + 1 == length columns then max (c.to - c.from) (widest - c.from) else c.to - c.from

-- the widths of all columns
abbrev pub simple_widths : Bool → Grid → List ℕ
simple_widths unmarked T = map (width_of (columns_of T) (longest_of T (simple_rows unmarked T))) (range_with_len 0 (length (columns_of T)))

-- where the k-th span of a row ends: the last has no end
abbrev pub span_right : List RuleSpan → ℕ → Option ℕ
span_right spans k = if k + 1 == length spans then None else Some (span_of spans k).to

-- the cell of a row's lines in its k-th span
abbrev pub entry : Grid → List RuleSpan → ℕ → Cell
entry lines spans k = record { morerows = 0; morecols = (span_of spans k).columns - 1; lines = cell_block (span_of spans k).from (span_right spans k) lines }

-- the cells of a row's lines, one in each span
abbrev pub entries : Grid → List RuleSpan → List Cell
entries lines spans = map (entry lines spans) (range_with_len 0 (length spans))

-- the cells of a row
abbrev pub row_entries : Grid → RowLines → List Cell
row_entries T r = entries (lines_of_row T r) (row_spans T r)

-- how many rows end above the border that closes the head
abbrev pub simple_head : Option ℕ → List RowLines → ℕ
simple_head None rows = 0
simple_head (Some border) rows = count_by (λ r. nat_le r.to border) rows

-- ---- what is wrong with it

-- the fault of a table's borders: there is no bottom border, or it isn't as long as the top one
abbrev pub border_fault : Block → Option ℕ → Option TableDetail
border_fault X None = Some BottomMissing
border_fault X (Some bottom) = if is_as_long X bottom then None else Some BorderMismatch

-- the first rule whose spans don't cover the columns, by its line, counted from 1
abbrev pub rule_fault : Grid → Option TableDetail
rule_fault T = option_map (λ k. ColumnSpan (k + 1)) (find (is_unaligned T) (rules_of T))

-- the first line with text between its columns, counted from 1
abbrev pub margin_fault : Bool → Grid → Option TableDetail
margin_fault unmarked T = option_map (λ k. Margin (k + 1)) (first_in_margin T (simple_rows unmarked T))

-- the first fault of a table's lines: those of its rules come first
abbrev pub lines_fault : Bool → Grid → Option TableDetail
lines_fault unmarked T = option_or (rule_fault T) (margin_fault unmarked T)

-- the first fault of a table
abbrev pub simple_fault : Block → Grid → Option TableDetail
simple_fault X T = option_or (border_fault X (simple_bottom X)) (lines_fault (first_parts X).unmarked T)

-- ---- the answer

-- What the lines of a table are, by their first fault, if they have one. The border that closes its head is one of them.
abbrev pub simple_by : Bool → ℕ → ℕ → Option ℕ → Grid → Option TableDetail → TableResult
simple_by unmarked line i head T (Some detail) = malformed line i (length T) detail
simple_by unmarked line i head T None =
    let rows = simple_rows unmarked T in Table (simple_widths unmarked T) (simple_head head rows) (map (row_entries T) rows) (i + length T)

-- the simple table whose top border is at place i of a block
abbrev pub simple_table : Block → ℕ → TableResult
simple_table B i = let X = drop i B in let T = rows_of (take (simple_size X) X) in simple_by (first_parts X).unmarked (first_number X) i (head_border X) T (simple_fault X T)
