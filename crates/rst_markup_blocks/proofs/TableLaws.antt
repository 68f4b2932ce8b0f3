-- Tables end within their block.
use Rattle.std.specs.Prelude.{◌≡◌, ℕ, ◌+◌, ◌-◌, ◌<◌, ◌≤◌, Bool, true, cond, IsTrue, List, [], ◌∷◌, length, Option, Some, None, IfSome, unwrap_or}
use Rattle.std.specs.Option.{option_or, option_and_then}
use Rattle.std.proofs.Common.{arith}
use Rattle.rst_text.specs.Block.{Block, first_text}
use Rattle.rst_text.specs.Places.{IsFirst, IsLast}
use Rattle.rst_text.proofs.PlacesLemmas.{first_from-IsFirst, last_from-IsLast}
use Rattle.rst_markup_lines.specs.Border.{is_grid_border}
use Rattle.rst_markup_blocks.specs.declared.lines.LineTest.{LineTest}
use Rattle.rst_markup_blocks.specs.declared.lines.LineTest.TheVariants.{Drawn}
use Rattle.rst_markup_blocks.specs.TableLines.{is_drawn}
use Rattle.rst_markup_blocks.specs.Lines.{passes, lines_while}
use Rattle.rst_markup_blocks.proofs.RowLaws.{while_le}
use Rattle.rst_markup_blocks.specs.TableRows.{is_border_at, grid_bottom, grid_size, is_lower_border_at, border_below, closes_head, head_border, simple_bottom, simple_size, is_grid_row, is_simple_row}
use Rattle.std.proofs.lemmas.Bool.{cond_both}

-- ---- grid tables

-- a border of a grid table begins with `+`, as a line of the table may
pub grid_drawn : (t : List ℕ) → is_grid_border t ≡ true → is_drawn t ≡ true
unfolding is_grid_border is_drawn
grid_drawn t h = grind arith

-- where the first line passes a test, one line or more does
pub while_some : (test : LineTest) (X : Block) → 1 ≤ length X → passes test (first_text X) ≡ true → 1 ≤ lines_while test X
unfolding lines_while
while_some test [] some h = absurd (omega arith)
while_some test (l ∷ ls) some h = rw h (omega arith)

-- the bottom border is at the third line or later, among the lines that may belong to the table
pub grid_bottom_within : (X : Block) → IfSome (grid_bottom X) (λ k. (2 ≤ k) × (k < lines_while Drawn X))
grid_bottom_within X = found (grid_bottom X) (last_from-IsLast (is_border_at X) 2 (lines_while Drawn X - 2))
  where
    found : (o : Option ℕ) → IsLast (is_border_at X) 2 (2 + (lines_while Drawn X - 2)) o → IfSome o (λ k. (2 ≤ k) × (k < lines_while Drawn X))
    found (Some k) h = (h.0, omega (arith, h.0, h.1))
    found None h = tt

-- a grid table has no more lines than these
pub grid_size_le : (X : Block) → grid_size X ≤ lines_while Drawn X
unfolding grid_size
grid_size_le X = grind (arith, grid_bottom_within X)

-- A grid table has a line or more, and ends within the block.
pub grid_within : (titles : Bool) (X : Block) → 1 ≤ length X → IsTrue (is_grid_row X) → (1 ≤ grid_size X) × (grid_size X ≤ length X)
unfolding grid_size
grid_within titles X some h =
    let one : 1 ≤ lines_while Drawn X = while_some Drawn X some (grid_drawn (first_text X) h) in
    (grind (arith, one), omega (arith, grid_size_le X, while_le Drawn X))

-- ---- simple tables

-- a border below a line is below it, within the block
pub border_below_within : (X : Block) (k : ℕ) → IfSome (border_below X k) (λ j. (k < j) × (j < length X))
border_below_within X k = found (border_below X k) (first_from-IsFirst (is_lower_border_at X) (k + 1) (length X - (k + 1)))
  where
    found : (o : Option ℕ) → IsFirst (is_lower_border_at X) (k + 1) (k + 1 + (length X - (k + 1))) o → IfSome o (λ j. (k < j) × (j < length X))
    found (Some j) h = (omega (arith, h.0), omega (arith, h.0, h.1))
    found None h = tt

-- so does the border that closes the head
pub head_border_within : (X : Block) → IfSome (head_border X) (λ k. (0 < k) × (k < length X))
head_border_within X = by (border_below X 0) (border_below_within X 0)
  where
    by : (o : Option ℕ) → IfSome o (λ k. (0 < k) × (k < length X)) → IfSome (option_and_then (λ k. cond (closes_head X k) (Some k) None) o) (λ k. (0 < k) × (k < length X))
    by None h = tt
    by (Some k) h = cond_both (closes_head X k) (Some k) None (λ o. IfSome o (λ k. (0 < k) × (k < length X))) (λ _. h) (λ _. tt)

-- so does the last border of a simple table
pub simple_border_within : (X : Block) → IfSome (option_or (simple_bottom X) (head_border X)) (λ k. k < length X)
simple_border_within X = by (simple_bottom X) (head_border X) (border_below_within X (unwrap_or (head_border X) 0)) (head_border_within X)
  where
    by : (o p : Option ℕ) → IfSome o (λ k. (unwrap_or (head_border X) 0 < k) × (k < length X)) → IfSome p (λ k. (0 < k) × (k < length X)) → IfSome (option_or o p) (λ k. k < length X)
    by (Some k) p a b = a.1
    by None (Some k) a b = b.1
    by None None a b = tt

-- a simple table ends within the block
pub simple_size_le : (X : Block) → simple_size X ≤ length X
unfolding simple_size
simple_size_le X = grind (arith, simple_border_within X)

-- A simple table has a line or more, and ends within the block.
pub simple_within : (titles : Bool) (X : Block) → 1 ≤ length X → IsTrue (is_simple_row X) → (1 ≤ simple_size X) × (simple_size X ≤ length X)
unfolding simple_size
simple_within titles X some h = (grind arith, simple_size_le X)
