-- Laws on the budget and the floor of looks.
use Rattle.std.specs.Prelude.{◌≡◌, ◌≤◌, ℕ, ◌*◌, Bool, true, false, not, List, length}
use Rattle.std.specs.List.{list_all, AllByRecursion}
use Rattle.rst_text.specs.Block.{Line, Block, first_text, is_blank}
use Rattle.rst_text.specs.Lines.{ends_white}
use Rattle.rst_block_state.specs.looks.Budget.{sum_of, budget, floor, total}
use Rattle.rst_block_state.specs.Inside.{inside, cells}
use Rattle.rst_block_state.specs.Within.{Within}

-- no line ends with a white character
abbrev pub is_trimmed : Block → Bool
is_trimmed B = list_all (λ (l : Line). not (ends_white l.text)) B

-- the first line isn't blank, if there is one
pub record IsFronted (C : Block) : Type 0 where
  pub trimmed : is_trimmed C ≡ true
  pub first_not_blank : 1 ≤ length C → is_blank (first_text C) ≡ false

-- blocks with no more than n lines in all, of which each begins with a line that isn't blank, if it has one
pub record HaveAtMostLines (n : ℕ) (Cs : List Block) : Type 0 where
  pub few : sum_of length Cs ≤ n
  pub fronted : AllByRecursion IsFronted Cs

-- the blocks that are opened in a block are in its lines, one after another
abbrev pub BlocksAreInside : Type 0
BlocksAreInside = (c : Within) (B : Block) → is_trimmed B ≡ true → HaveAtMostLines (length B) (inside c B)

-- no line of a cell ends with a white character
abbrev pub CellsAreTrimmed : Type 0
CellsAreTrimmed = (c : Within) (B : Block) → AllByRecursion (λ C. is_trimmed C ≡ true) (cells c B)

-- 128 looks for each line of a block and of all blocks and cells inside are within its budget
abbrev pub TotalIsWithinBudget : Type 0
TotalIsWithinBudget = (code : Bool) (levels : ℕ) (titles : Bool) (B : Block) → is_trimmed B ≡ true
    → 128 * total code levels titles B ≤ budget code levels titles B

-- the floor is no more than these lines
abbrev pub FloorIsWithinTotal : Type 0
FloorIsWithinTotal = (code : Bool) (levels : ℕ) (titles : Bool) (B : Block) → floor code levels titles B ≤ total code levels titles B
