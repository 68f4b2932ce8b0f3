-- Measures, scales and alignments (Markup Specification, 'Length Units', 'Percentage Units'; Directives, 'Image', 'Figure').
use Rattle.std.specs.Prelude.{ℕ, ◌+◌, Bool, not, ◌&&◌, ◌||◌, ◌==◌, nat_lt, List, [], ◌∷◌, ◌++◌, take, drop, codes, Option, Some, None, if◌then◌else◌}
use Rattle.std.specs.List.{list_any}
use Rattle.rst_text.specs.Block.{is_blank}
use Rattle.rst_text.specs.Characters.{has}
use Rattle.rst_markup_lines.specs.Decimal.{number_of}
use Rattle.rst_markup_directives.specs.Characters.{Text, digit_count, unindented, is_exactly, lookup}
use Rattle.rst_markup_directives.specs.declared.measure.Alignment.{Alignment}
use Rattle.rst_markup_directives.specs.declared.measure.Alignment.TheVariants.{Top, Middle, Bottom, Left, Center, Right}

-- how many digits follow a point at the place, 0 where there is none
abbrev pub digits_after_point : Text → ℕ → ℕ
digits_after_point t i = if has t i 46 then digit_count (drop (i + 1) t) else 0

-- how many characters the number at the front has: digits, and a point and digits where these follow; 0 where there is none
unfoldable pub number_len : Text → ℕ
number_len t = if digit_count t == 0 || digits_after_point t (digit_count t) == 0 then digit_count t else digit_count t + 1 + digits_after_point t (digit_count t)

-- the units of measures: those of lengths, and a percent sign where that is allowed
abbrev pub units : Bool → List Text
units percent = codes "em" ∷ codes "ex" ∷ codes "px" ∷ codes "in" ∷ codes "cm" ∷ codes "mm" ∷ codes "pt" ∷ codes "pc" ∷ (if percent then codes "%" ∷ [] else [])

-- the unit of a measure: what follows the number and the spaces after it
abbrev pub unit_in : Text → Text
unit_in t = unindented (drop (number_len t) t)

-- a measure, without the spaces in it: a number, and a unit or nothing, which is `px` where there is no unit and one is wanted
unfoldable pub measure_of : Text → Bool → Bool → Option Text
measure_of t percent wanted =
    if number_len t == 0 || not (is_blank (unit_in t) || list_any (is_exactly (unit_in t)) (units percent)) then None
    else Some (take (number_len t) t ++ (if wanted && is_blank (unit_in t) then codes "px" else unit_in t))

-- a scale: one to nine digits, maybe a percent sign with or without spaces before it
unfoldable pub scale_of : Text → Option ℕ
scale_of t =
    if digit_count t == 0 || nat_lt 9 (digit_count t) then None
    else if is_blank (drop (digit_count t) t) || is_exactly (unindented (drop (digit_count t) t)) (codes "%")
    then Some (number_of (digit_count t) t)
    else None

-- the alignments by their words, the vertical ones only where they are allowed
abbrev pub alignments : Bool → List (Text × Alignment)
alignments vertical =
    (codes "left", Left) ∷ (codes "center", Center) ∷ (codes "right", Right)
    ∷ (if vertical then (codes "top", Top) ∷ (codes "middle", Middle) ∷ (codes "bottom", Bottom) ∷ [] else [])

-- the alignment that a word names
unfoldable pub alignment_of : Text → Bool → Option Alignment
alignment_of t vertical = lookup (is_exactly t) (alignments vertical)
