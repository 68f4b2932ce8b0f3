-- The widths of the columns of tables (Directives, 'Table', 'List Table').
use Rattle.std.specs.Prelude.{ℕ, Bool, ◌&&◌, ◌==◌, List, [], ◌∷◌, map, codes, Option, Some, None, option_map, option_and_then, if◌then◌else◌}
use Rattle.std.specs.List.{slice_split}
use Rattle.rst_text.specs.Characters.{is_among}
use Rattle.rst_text.specs.Names.{normalized_white}
use Rattle.rst_markup_directives.specs.Characters.{Text, is_exactly}
use Rattle.rst_markup_directives.specs.Contents.{depth_of}
use Rattle.rst_markup_directives.specs.declared.widths.Widths.{Widths}
use Rattle.rst_markup_directives.specs.declared.widths.Widths.TheVariants.{Auto, Drawn, Given}

-- the widths of columns: those that their content takes, those that are drawn, or these
pub data Columns : Type 0 where
  auto : Columns
  drawn : Columns
  given : List ℕ → Columns

-- the class of a table with such columns
abbrev pub columns_class : Columns → List ℕ
columns_class auto = codes "colwidths-auto"
columns_class drawn = codes "colwidths-given"
columns_class (given widths) = codes "colwidths-given"

-- a number, unless it is 0
abbrev pub above_zero : ℕ → Option ℕ
above_zero n = if n == 0 then None else Some n

-- a width: one to nine digits, maybe between white characters, and not 0
unfoldable pub width_of : Text → Option ℕ
width_of t = option_and_then above_zero (depth_of (normalized_white t))

-- a width before others, if it and they are right
abbrev pub onto_widths : Option ℕ → Option (List ℕ) → Option (List ℕ)
onto_widths width widths = option_and_then (λ w. option_map (λ ws. w ∷ ws) widths) width

-- the widths that texts are, if each is one
abbrev pub widths_among : List Text → Option (List ℕ)
widths_among [] = Some []
widths_among (t ∷ ts) = onto_widths (width_of t) (widths_among ts)

-- what widths are parted by: commas, or spaces if there is no comma
abbrev pub separator : Text → ℕ
separator t = if is_among t 44 then 44 else 32

-- the widths in a text whose runs of white are one space each: at least one
unfoldable pub widths_in : Text → Option (List ℕ)
widths_in t = widths_among (slice_split (λ c. c == separator t) t)

-- the widths of columns by a word for them, or by numbers; `is_drawn` is true if they may be those that are drawn
unfoldable pub columns_of : Bool → Text → Option Columns
columns_of is_drawn t =
    if is_exactly t (codes "auto") then Some auto
    else if is_drawn && is_exactly t (codes "grid") then Some drawn else option_map given (widths_in (normalized_white t))

-- ---- as they are kept

-- the meaning of widths
abbrev pub columns_in : Widths → Columns
columns_in Auto = auto
columns_in Drawn = drawn
columns_in (Given widths) = given widths.items
