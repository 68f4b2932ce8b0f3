-- The rectangles that a grid table draws, and the tilings of it (Markup Specification, 'Grid Tables').
use Rattle.std.specs.Prelude.{◌≡◌, ℕ, ◌+◌, ◌-◌, ◌<◌, ◌≤◌, Bool, true, ◌&&◌, ◌||◌, ◌==◌, nat_lt, nat_le, List, [], ◌∷◌, Option, Some, None, is_some, option_map, option_and_then, count_by, length, ⊤}
use Rattle.rst_text.specs.Places.{first_from, all_from}
use Rattle.rst_markup_tables.specs.Places.{Grid, width, place}
use Rattle.rst_markup_tables.specs.declared.drawn.Rectangle.{Rectangle}

-- ---- rectangles

-- `-` or `+`
unfoldable pub is_across : ℕ → Bool
is_across c = c == 45 || c == 43

-- `|` or `+`
unfoldable pub is_upright : ℕ → Bool
is_upright c = c == 124 || c == 43

-- `-` and `+` from one place of a row through another
abbrev pub goes_across : Grid → ℕ → ℕ → ℕ → Bool
goes_across G row left right = all_from (λ j. is_across (place G row j)) left (right + 1 - left)

-- `|` or `+` at two places of a row
abbrev pub are_upright : Grid → ℕ → ℕ → ℕ → Bool
are_upright G left right row = is_upright (place G row left) && is_upright (place G row right)

-- a `+` at both ends of a side, and `-` and `+` between them
abbrev pub is_side : Grid → ℕ → ℕ → ℕ → Bool
is_side G row left right = place G row left == 43 && (place G row right == 43 && goes_across G row left right)

-- a rectangle with these sides is drawn: `|` and `+` go down on the left and on the right
unfoldable pub is_frame : Grid → ℕ → ℕ → ℕ → ℕ → Bool
is_frame G top left right bottom = is_side G top left right && (is_side G bottom left right && all_from (are_upright G left right) top (bottom + 1 - top))

-- the least bottom side of a rectangle with these other sides
abbrev pub bottom_of : Grid → ℕ → ℕ → ℕ → Option ℕ
bottom_of G top left right = first_from (is_frame G top left right) (top + 1) (length G - (top + 1))

-- a rectangle with these sides has a bottom side
abbrev pub has_bottom : Grid → ℕ → ℕ → ℕ → Bool
has_bottom G top left right = is_some (bottom_of G top left right)

-- the least right side of a rectangle that is drawn from a place
abbrev pub right_of : Grid → ℕ → ℕ → Option ℕ
right_of G top left = first_from (has_bottom G top left) (left + 1) (width G - (left + 1))

-- a rectangle by its sides
abbrev pub rectangle_at : ℕ → ℕ → ℕ → ℕ → Rectangle
rectangle_at top left right bottom = record { top = top; left = left; bottom = bottom; right = right }

-- the rectangle that is drawn from a place: the one with the least right side and, with that, the least bottom side
unfoldable pub drawn_at : Grid → ℕ → ℕ → Option Rectangle
drawn_at G top left = option_and_then (λ right. option_map (rectangle_at top left right) (bottom_of G top left right)) (right_of G top left)

-- the rectangle is the one that is drawn from its corner
abbrev pub IsDrawn : Grid → Rectangle → Type 0
IsDrawn G r = drawn_at G r.top r.left ≡ Some r

-- the rectangle lies in the grid
pub record IsWithin (G : Grid) (r : Rectangle) : Type 0 where
  pub high : r.top < r.bottom
  pub low : r.bottom < length G
  pub wide : r.left < r.right
  pub inside : r.right < width G

-- ---- tilings

-- the unit square with the place at its top left corner lies in the rectangle
unfoldable pub covers : Rectangle → ℕ → ℕ → Bool
covers r i j = nat_le r.top i && (nat_lt i r.bottom && (nat_le r.left j && nat_lt j r.right))

-- in how many of the rectangles the unit square lies
abbrev pub times : List Rectangle → ℕ → ℕ → ℕ
times rs i j = count_by (λ r. covers r i j) rs

-- in reading order, the rectangle begins at the unit square or after it
abbrev pub BeginsFrom : ℕ → ℕ → Rectangle → Type 0
BeginsFrom i j r = (i ≤ r.top) × (i ≡ r.top → j ≤ r.left)

-- drawn rectangles in reading order, from the unit square on
abbrev pub AreDrawn : Grid → ℕ → ℕ → List Rectangle → Type 0
AreDrawn G i j [] = ⊤
AreDrawn G i j (r ∷ rs) = BeginsFrom i j r × IsDrawn G r × AreDrawn G r.top (r.left + 1) rs

-- each unit square between neighbouring places lies in exactly one of the rectangles
abbrev pub cover_once : Grid → List Rectangle → Bool
cover_once G rs = all_from (λ i. all_from (λ j. times rs i j == 1) 0 (width G - 1)) 0 (length G - 1)

-- the rectangles tile the grid
pub record IsTiling (G : Grid) (rs : List Rectangle) : Type 0 where
  pub drawn : AreDrawn G 0 0 rs
  pub once : cover_once G rs ≡ true

-- the tiling, or that there is none
abbrev pub Tiles : Grid → Option (List Rectangle) → Type 0
Tiles G (Some rs) = IsTiling G rs
Tiles G None = (rs : List Rectangle) → IsTiling G rs → ⊥

-- a grid has at most one tiling
abbrev pub OneTiling : Grid → Type 0
OneTiling G = (rs qs : List Rectangle) → IsTiling G rs → IsTiling G qs → rs ≡ qs
