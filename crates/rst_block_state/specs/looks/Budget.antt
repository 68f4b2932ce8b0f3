-- How many looks at lines the reading of a block may take, and has to take at least. No rule of markup: it bounds the time.
use Rattle.std.specs.Prelude.{ℕ, zero, suc, ◌+◌, ◌*◌, ◌≤◌, max, Bool, true, false, List, [], ◌∷◌, length, if◌then◌else◌}
use Rattle.std.specs.List.{list_all}
use Rattle.rst_settings.specs.Profile.{Profile}
use Rattle.rst_text.specs.Block.{Line, Block, is_blank}
use Rattle.rst_text.specs.Looked.{capped}
use Rattle.rst_block_state.specs.Inside.{inside, cells}
use Rattle.rst_block_state.specs.Numbered.{just}
use Rattle.rst_block_state.specs.Within.{Within}

-- how the constructs of a block are found, where none of the blocks inside is read
abbrev pub unread : (code titles : Bool) → Within
unread code titles = record { titles = titles; code = code; levels = 0; inner = λ C. just [] }

-- all lines are blank
abbrev pub has_blank_lines_only : Block → Bool
has_blank_lines_only B = list_all (λ (l : Line). is_blank l.text) B

-- a number for each of some blocks, summed
unfoldable pub sum_of : (Block → ℕ) → List Block → ℕ
sum_of f [] = 0
sum_of f (C ∷ Cs) = f C + sum_of f Cs

-- the same for those that aren't bare
unfoldable pub filled_sum : (Block → ℕ) → List Block → ℕ
filled_sum f [] = 0
filled_sum f (C ∷ Cs) = (if has_blank_lines_only C then 0 else f C) + filled_sum f Cs

-- how many levels some blocks have, their own among them, by how many there are below each: 0 where there is none but bare ones
unfoldable pub deepest_of : (Block → ℕ) → List Block → ℕ
deepest_of g [] = 0
deepest_of g (C ∷ Cs) = max (if has_blank_lines_only C then 0 else suc (g C)) (deepest_of g Cs)

-- The largest number of levels by which a block that is opened inside, cells not entered, is deeper. This many levels may still be opened.
unfoldable pub depth : Bool → (levels : ℕ) → Bool → Block → ℕ
depth code zero titles B = 0
depth code (suc levels) titles B = deepest_of (depth code levels false) (inside (unread code titles) B)

-- the budgets of the cells that are reached without passing through another cell
unfoldable pub cells_budget : Bool → (levels : ℕ) → Bool → Block → ℕ
cells_budget code zero titles B = 0
cells_budget code (suc levels) titles B =
    sum_of (λ C. 128 * (length C * suc (depth code levels false C)) + cells_budget code levels false C) (cells (unread code titles) B)
    + sum_of (cells_budget code levels false) (inside (unread code titles) B)

-- the budget of a block: 128 looks for each line and each level, and the budgets of the cells
abbrev pub budget : Bool → (levels : ℕ) → Bool → Block → ℕ
budget code levels titles B = 128 * (length B * suc (depth code levels titles B)) + cells_budget code levels titles B

-- the floor of a block: a look for each of its lines, and those of all blocks and cells inside that aren't bare
unfoldable pub floor : Bool → (levels : ℕ) → Bool → Block → ℕ
floor code zero titles B = length B
floor code (suc levels) titles B =
    length B + (filled_sum (floor code levels false) (inside (unread code titles) B)
    + filled_sum (floor code levels false) (cells (unread code titles) B))

-- the number of lines of a block and of all blocks and cells inside
unfoldable pub total : Bool → (levels : ℕ) → Bool → Block → ℕ
total code zero titles B = length B
total code (suc levels) titles B =
    length B + (sum_of (total code levels false) (inside (unread code titles) B)
    + sum_of (total code levels false) (cells (unread code titles) B))

-- the budget of a document: as many levels may be opened below it as the profile has, and one more for blocks that are too deep and must be blank
abbrev pub document_budget : Profile → Block → ℕ
document_budget profile B = budget profile.code (suc profile.nesting) true B

-- the floor of a document
abbrev pub document_floor : Profile → Block → ℕ
document_floor profile B = floor profile.code (suc profile.nesting) true B

-- this many looks at lines are within the bounds of a document, where the count may have stopped at its largest value
pub record IsWithinBounds (profile : Profile) (B : Block) (looks : ℕ) : Type 0 where
  pub budget : looks ≤ document_budget profile B
  pub floor : capped (document_floor profile B) ≤ looks
