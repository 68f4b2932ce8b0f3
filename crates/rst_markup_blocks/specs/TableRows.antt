-- The rows of tables, of which the characters of their lines alone determine the end (Markup Specification, 'Grid Tables',
-- 'Simple Tables'). The lines of a block count from 0, so that the top border is line 0.
use Rattle.std.specs.Prelude.{ℕ, suc, ◌+◌, ◌-◌, min, max, Bool, not, ◌&&◌, ◌==◌, length, if◌then◌else◌, Option, Some, None, unwrap_or}
use Rattle.std.specs.Option.{option_or, option_and_then}
use Rattle.rst_text.specs.Block.{Block, first_text, is_blank}
use Rattle.rst_text.specs.Places.{first_from, last_from}
use Rattle.rst_text.specs.Reach.{reach}
use Rattle.rst_markup_lines.specs.Border.{is_grid_border, is_simple_border}
use Rattle.rst_markup_blocks.specs.declared.lines.LineTest.TheVariants.{Drawn}
use Rattle.rst_markup_blocks.specs.TableLines.{border_len, is_lower_border}
use Rattle.rst_markup_blocks.specs.Lines.{lines_while}
use Rattle.rst_markup_blocks.specs.Conditions.{text_at}

-- the lines through this one, or all of them where there is none
abbrev pub lines_through : ℕ → Option ℕ → ℕ
lines_through all None = all
lines_through all (Some k) = k + 1

-- ---- grid tables

-- line k is a border of a grid table
abbrev pub is_border_at : Block → ℕ → Bool
is_border_at X k = is_grid_border (text_at X k)

-- The bottom border of a grid table: the last one from the third line on, among the lines at the front that begin with `+`
-- or `|`.
abbrev pub grid_bottom : Block → Option ℕ
grid_bottom X = last_from (is_border_at X) 2 (lines_while Drawn X - 2)

-- A grid table has the lines through its bottom border. Without one it has all that begin with `+` or `|`.
unfoldable pub grid_size : Block → ℕ
grid_size X = lines_through (lines_while Drawn X) (grid_bottom X)

-- How many lines a scan for a grid table goes over: those that begin with `+` or `|`, and the one that stops it. No rule of
-- markup: it bounds the time.
unfoldable pub grid_scan : Block → ℕ
grid_scan X = min (suc (lines_while Drawn X)) (length X)

-- ---- simple tables

-- line k is a border of a simple table, below its top one
abbrev pub is_lower_border_at : Block → ℕ → Bool
is_lower_border_at X k = is_lower_border (text_at X k)

-- the first border below line k
abbrev pub border_below : Block → ℕ → Option ℕ
border_below X k = first_from (is_lower_border_at X) (k + 1) (length X - (k + 1))

-- the border at line k is as long as the top one
abbrev pub is_as_long : Block → ℕ → Bool
is_as_long X k = border_len (text_at X k) == border_len (first_text X)

-- the border at line k closes a head: it is as long as the top one, and a line that isn't blank follows it
abbrev pub closes_head : Block → ℕ → Bool
closes_head X k = is_as_long X k && not (is_blank (text_at X (k + 1)))

-- the border that closes the head of a simple table: the first one below the top, if it closes one
abbrev pub head_border : Block → Option ℕ
head_border X = option_and_then (λ k. if closes_head X k then Some k else None) (border_below X 0)

-- The bottom border of a simple table: the first one below the border that closes its head, or below the top one where none
-- does.
abbrev pub simple_bottom : Block → Option ℕ
simple_bottom X = border_below X (unwrap_or (head_border X) 0)

-- A simple table has the lines through its bottom border. Without one it has those through the border that closes its head,
-- or all lines of the block where none does.
unfoldable pub simple_size : Block → ℕ
simple_size X = lines_through (length X) (option_or (simple_bottom X) (head_border X))

-- How many lines a scan for a simple table goes over: those through its bottom border, or all of them where there is none. No
-- rule of markup: it bounds the time.
unfoldable pub simple_scan : Block → ℕ
simple_scan X = lines_through (length X) (simple_bottom X)

-- ---- the rows

-- a border of a grid table begins one
abbrev pub is_grid_row : Block → Bool
is_grid_row X = is_grid_border (first_text X)

-- a border of a simple table begins one, if it has two columns or more
abbrev pub is_simple_row : Block → Bool
is_simple_row X = is_simple_border (first_text X)

-- A grid table's reach: the lines through the first one after it that isn't blank, or the lines of the scan, if they are
-- more.
abbrev pub grid_reach : Block → ℕ
grid_reach X = max (reach (grid_size X) X) (grid_scan X)

-- the same of a simple table
abbrev pub simple_reach : Block → ℕ
simple_reach X = max (reach (simple_size X) X) (simple_scan X)
