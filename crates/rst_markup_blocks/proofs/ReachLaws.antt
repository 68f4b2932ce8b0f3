-- A reach has the lines of its construct, and ends within the block.
use Rattle.std.specs.Prelude.{ℕ, max, ◌≤◌, Bool, IsTrue, [], ◌∷◌, length, drop, unwrap_or}
use Rattle.std.proofs.Common.{arith, length-drop}
use Rattle.std.proofs.Math.Nat.{le-max_left, max-le}
use Rattle.rst_text.specs.Block.{Block}
use Rattle.rst_text.specs.Reach.{reach, through_text}
use Rattle.rst_markup_blocks.specs.TableRows.{grid_size, grid_scan, head_border, simple_size, simple_scan, is_grid_row, is_simple_row, grid_reach, simple_reach}
use Rattle.rst_markup_blocks.proofs.TableLaws.{grid_within, border_below_within, simple_within}

-- the lines through the first that isn't blank are within the block
through_text_le : (Y : Block) → through_text Y ≤ length Y
unfolding through_text
through_text_le [] = omega arith
through_text_le (l ∷ ls) = grind (arith, through_text_le ls)

-- a reach of n lines has them, and ends within the block
pub reach_within : (n : ℕ) (X : Block) → n ≤ length X → (n ≤ reach n X) × (reach n X ≤ length X)
reach_within n X h = (omega arith, omega (arith, through_text_le (drop n X), length-drop n X))

-- the reach of a table, which the lines of its scan may be
wider : (n scan : ℕ) (X : Block) → n ≤ length X → scan ≤ length X → (n ≤ max (reach n X) scan) × (max (reach n X) scan ≤ length X)
wider n scan X h s =
    let r = reach_within n X h in
    (omega (arith, r.0, le-max_left (reach n X) scan), max-le r.1 s)

-- the scan for a grid table ends within the block
pub grid_scan_le : (X : Block) → grid_scan X ≤ length X
unfolding grid_scan
grid_scan_le X = omega arith

-- the scan for a simple table ends within the block
pub simple_scan_le : (X : Block) → simple_scan X ≤ length X
unfolding simple_scan
simple_scan_le X = grind (arith, border_below_within X (unwrap_or (head_border X) 0))

-- The reach of a grid table has its lines, and ends within the block.
pub grid_reaches : (titles : Bool) (X : Block) → 1 ≤ length X → IsTrue (is_grid_row X) → (grid_size X ≤ grid_reach X) × (grid_reach X ≤ length X)
grid_reaches titles X some h = let w = grid_within titles X some h in wider (grid_size X) (grid_scan X) X w.1 (grid_scan_le X)

-- The reach of a simple table has its lines, and ends within the block.
pub simple_reaches : (titles : Bool) (X : Block) → 1 ≤ length X → IsTrue (is_simple_row X) → (simple_size X ≤ simple_reach X) × (simple_reach X ≤ length X)
simple_reaches titles X some h = let w = simple_within titles X some h in wider (simple_size X) (simple_scan X) X w.1 (simple_scan_le X)
