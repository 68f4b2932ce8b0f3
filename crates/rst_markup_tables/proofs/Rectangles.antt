-- Drawn rectangles, and what they cover.
use Rattle.std.proofs.Common.{List, [], ◌∷◌, Option, Some, None, refl, subst, ◌≡◌, ℕ, ◌+◌, ◌-◌, ◌<◌, ◌≤◌, true, length, arith}
use Rattle.std.specs.Prelude.{option_map, option_and_then}
use Rattle.std.proofs.lemmas.List.{get_or_past}
use Rattle.std.proofs.lemmas.Bool.Decides.{nat_tests}
use Rattle.std.proofs.lemmas.Option.{same_Some}
use Rattle.rst_text.specs.Places.{IsFirst}
use Rattle.rst_text.proofs.PlacesLemmas.{first_from-IsFirst}
use Rattle.rst_markup_tables.specs.declared.drawn.Rectangle.{Rectangle}
use Rattle.rst_markup_tables.specs.declared.places.Place.TheVariants.{Second}
use Rattle.rst_markup_tables.specs.Places.{Grid, width, place, row_at, no_row}
use Rattle.rst_markup_tables.specs.Drawn.{is_frame, bottom_of, has_bottom, right_of, rectangle_at, drawn_at, IsWithin, covers, times, BeginsFrom, AreDrawn}

pub place_within : (G : Grid) (i j c : ℕ) → place G i j ≡ c → 0 < c → (i < length G) × (j < length (row_at G i))
place_within G i j c h some =
    let inside : j < length (row_at G i) = grind (arith, get_or_past (row_at G i) j Second) in (grind (arith, get_or_past G i no_row), inside)

-- ---- the rectangle that is drawn from a place

pub record IsFrom (G : Grid) (i j : ℕ) (r : Rectangle) : Type 0 where
  pub top : r.top ≡ i
  pub left : r.left ≡ j
  pub within : IsWithin G r
  pub frame : is_frame G r.top r.left r.right r.bottom ≡ true

pub drawn_from : (G : Grid) (i j : ℕ) (r : Rectangle) → drawn_at G i j ≡ Some r → IsFrom G i j r
unfolding drawn_at
drawn_from G i j r is = by (right_of G i j) (first_from-IsFirst (has_bottom G i j) (j + 1) (width G - (j + 1))) is
  where
    framed : (right : ℕ) (o : Option ℕ) → j < right → right < width G → IsFirst (is_frame G i j right) (i + 1) (i + 1 + (length G - (i + 1))) o → option_map (rectangle_at i j right) o ≡ Some r → IsFrom G i j r
    framed right None wide inside first is = cc
    framed right (Some b) wide inside first is = subst (IsFrom G i j) (same_Some _ _ is)
        (record { top = refl; left = refl; within = record { high = omega (arith, first.0); low = omega (arith, first.1); wide = wide; inside = inside }; frame = first.2 })

    by : (o : Option ℕ) → IsFirst (has_bottom G i j) (j + 1) (j + 1 + (width G - (j + 1))) o → option_and_then (λ right. option_map (rectangle_at i j right) (bottom_of G i j right)) o ≡ Some r → IsFrom G i j r
    by None first is = cc
    by (Some right) first is = framed right (bottom_of G i j right) (omega (arith, first.0)) (omega (arith, first.1)) (first_from-IsFirst (is_frame G i j right) (i + 1) (length G - (i + 1))) is

-- ---- covering

pub covers_yes : (r : Rectangle) (i j : ℕ) → r.top ≤ i → i < r.bottom → r.left ≤ j → j < r.right → covers r i j ≡ true
unfolding covers
covers_yes r i j a b c d = grind (arith, nat_tests)

-- a square before the first of the rectangles lies in none
pub times_before : (G : Grid) (i j x y : ℕ) (rs : List Rectangle) → AreDrawn G i j rs → x ≤ i → (x ≡ i → y < j) → times rs x y ≡ 0
unfolding covers
times_before G i j x y [] a up left = refl
times_before G i j x y (r ∷ rs) a up left =
    let from : BeginsFrom i j r = a.0 in
    let rest : times rs x y ≡ 0 = times_before G r.top (r.left + 1) x y rs a.2 (omega (arith, from.0)) (λ e. omega (arith, from.0, from.1)) in
    grind (arith, nat_tests, from.0, from.1)
