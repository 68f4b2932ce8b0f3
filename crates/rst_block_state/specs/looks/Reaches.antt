-- How the reaches of a block's constructs share lines. No rule of markup: it bounds the time.
use Rattle.std.specs.Prelude.{◌≡◌, ℕ, suc, ◌+◌, ◌-◌, ◌*◌, ◌≤◌, Bool, false, not, ◌&&◌, List, [], ◌∷◌, length, drop, if◌then◌else◌}
use Rattle.rst_text.specs.Block.{Block, first_text, is_blank}
use Rattle.rst_markup_lines.specs.Border.{is_grid_border}
use Rattle.rst_markup_blocks.specs.Ends.{row_reach}
use Rattle.rst_markup_blocks.specs.Kinds.{kind_at}
use Rattle.rst_markup_blocks.specs.Partition.{construct_size}
use Rattle.rst_markup_blocks.specs.TableLines.{is_drawn, is_lower_border}

-- how many lines there are through the first that fails a test; all of them, if there is none
unfoldable pub through : (List ℕ → Bool) → Block → ℕ
through p [] = 0
through p (l ∷ ls) = if p l.text then suc (through p ls) else 1

-- how many lines there are after that one
abbrev pub lines_beyond : (List ℕ → Bool) → Block → ℕ
lines_beyond p X = length X - through p X

-- a line that a scan for a grid table may go over after the table
abbrev pub is_after_grid : List ℕ → Bool
is_after_grid t = is_drawn t && not (is_grid_border t)

-- a line that a scan for a simple table may go over after the table
abbrev pub is_after_simple : List ℕ → Bool
is_after_simple t = not (is_lower_border t)

-- How many lines the reaches of the constructs that X begins with may have, counted together: a line counts once for the construct that it is in,
-- once for the one before that, once for a scan for a grid table and once for one for a simple table.
abbrev pub unpaid : Block → ℕ
unpaid X = length X + (lines_beyond is_blank X + (lines_beyond is_after_grid X + lines_beyond is_after_simple X))

-- the reach of the construct that X begins with: the lines through the first after it that isn't blank or, of a table, through the one that stops its scan
abbrev pub reach_at : Bool → Block → ℕ
reach_at titles X = row_reach (kind_at X) titles X

-- what is unpaid after a construct, and the construct's reach, were unpaid before it
abbrev pub ReachesArePaid : Type 0
ReachesArePaid = (titles : Bool) (X : Block) → is_blank (first_text X) ≡ false
    → reach_at titles X + unpaid (drop (construct_size titles X) X) ≤ unpaid X

-- no line is in more than four reaches
abbrev pub AtMostFour : Type 0
AtMostFour = (X : Block) → unpaid X ≤ 4 * length X

-- a line that is in no construct is unpaid as long as the block goes on before it
abbrev pub LinesArePaid : Type 0
LinesArePaid = (X : Block) → 1 ≤ length X → unpaid (drop 1 X) + 1 ≤ unpaid X
