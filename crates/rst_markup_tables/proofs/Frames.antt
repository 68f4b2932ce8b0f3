-- The search for the rectangle that is drawn from a place.
use Rattle.std.proofs.Common.{⊎_elim, ◌≡◌, ℕ, zero, suc, ◌+◌, ◌-◌, ◌<◌, ◌≤◌, length, true, false, leb, cond, List, [], map, add-one, get_or, refl, sym, ap, ◌∙◌, arith, Some, None}
use Rattle.std.specs.Prelude.{is_some, option_map, option_and_then}
use Rattle.std.proofs.lemmas.Bool.{and_from, and_left, and_right, cases_lt, le-leb}
use Rattle.std.proofs.lemmas.Bool.Decides.{nat_tests}
use Rattle.std.proofs.lemmas.List.{get_or-map}
use Rattle.std.proofs.lemmas.List.FromFn.{get_or-map-range_with_len}
use Rattle.rst_text.specs.Places.{all_from, NoneFrom}
use Rattle.rst_text.proofs.PlacesLemmas.{all_from-stop, first_from-is}
use Rattle.rst_markup_tables.specs.Places.{Grid, no_row, place, row_at, mark_at, width}
use Rattle.rst_markup_tables.specs.Drawn.{is_across, is_upright, are_upright, goes_across, is_side, is_frame, bottom_of, has_bottom, rectangle_at, drawn_at}
use Rattle.rst_markup_tables.specs.Search.{run_begin, begins_of, begin_at}
use Rattle.rst_markup_tables.specs.declared.places.Place.{Place}
use Rattle.rst_markup_tables.proofs.Rectangles.{place_within}

-- ---- runs

pub run_more : (row : List Place) (n : ℕ) → run_begin row (n + 1) ≡ cond (is_across (mark_at row n)) (run_begin row n) (n + 1)
run_more row n = rw add-one refl

run_le : (row : List Place) (n : ℕ) → run_begin row n ≤ n
run_le row zero = omega arith
run_le row (suc n) = grind (arith, run_le row n)

-- a row consists of `-` and `+` up to a place exactly from the beginning of the run on
run_is : (row : List Place) (left n : ℕ) → all_from (λ j. is_across (mark_at row j)) left (n - left) ≡ leb (run_begin row n) left
run_is row left zero = let none : 0 - left ≡ 0 = omega arith in rw none (sym (le-leb 0 left (omega arith)))
run_is row left (suc n) = ⊎_elim
    (λ past.
    let none : suc n - left ≡ 0 = omega arith in
    ap (all_from (λ j. is_across (mark_at row j)) left) none ∙ sym (le-leb (run_begin row (suc n)) left (omega (arith, run_le row (suc n)))))
    (λ within.
    let more : suc n - left ≡ suc (n - left) = omega arith in
    let last : left + (n - left) ≡ n = omega arith in
    rw (more, last) (grind (arith, nat_tests, run_is row left n)))
    (cases_lt n left)

pub side_is : (G : Grid) (B : List (List ℕ)) (row left right : ℕ) → B ≡ map begins_of G → place G row right ≡ 43 → goes_across G row left right ≡ leb (begin_at B row right) left
unfolding begin_at
side_is G B row left right begun plus =
    let w = place_within G row right 43 plus (omega arith) in
    let at : get_or (get_or B row []) right 0 ≡ run_begin (row_at G row) (right + 1) =
    ap (λ (B : List (List ℕ)). get_or (get_or B row []) right 0) begun ∙ ap (λ (bs : List ℕ). get_or bs right 0) (get_or-map begins_of G row no_row [] w.0)
    ∙ get_or-map-range_with_len (λ j. run_begin (row_at G row) (j + 1)) 0 (length (row_at G row)) right right 0 w.1 (omega arith) in
    run_is (row_at G row) left (right + 1) ∙ ap (λ b. leb b left) (sym at)

-- ---- the least bottom side

-- the corners of a top side
pub corners : (G : Grid) (top left right : ℕ) → is_side G top left right ≡ true → all_from (are_upright G left right) top (top + 1 - top) ≡ true
unfolding is_upright
corners G top left right e =
    let one : top + 1 - top ≡ 1 = omega arith in
    rw one (grind (arith, nat_tests))

pub frame_here : (G : Grid) (top left right row : ℕ) → is_side G top left right ≡ true → is_side G row left right ≡ true → all_from (are_upright G left right) top (row + 1 - top) ≡ true → is_frame G top left right row ≡ true
unfolding is_frame
frame_here G top left right row above below sides = and_from _ _ above (and_from _ _ below sides)

-- a row without a side closes no rectangle
pub no_side : (G : Grid) (top left right row : ℕ) → is_side G row left right ≡ false → is_frame G top left right row ≡ false
unfolding is_frame
no_side G top left right row e = and_right (is_side G top left right) _ (and_left _ _ e)

-- nor does any row from one on where a side ends
pub ended : (G : Grid) (top left right row high : ℕ) → top ≤ row → are_upright G left right row ≡ false → NoneFrom (is_frame G top left right) row high
unfolding is_frame
ended G top left right row high low e k above below =
    and_right (is_side G top left right) _ (and_right (is_side G k left right) _ (all_from-stop (are_upright G left right) top row (k + 1) low (omega arith) e))

-- ---- the least right side

pub no_bottom : (G : Grid) (top left right : ℕ) → is_side G top left right ≡ false → has_bottom G top left right ≡ false
unfolding is_frame
no_bottom G top left right e = ap is_some (sym (first_from-is (is_frame G top left right) (top + 1) (length G) None (λ k above below. and_left _ _ e)))

pub none_drawn : (G : Grid) (top left : ℕ) → NoneFrom (has_bottom G top left) (left + 1) (width G) → None ≡ drawn_at G top left
unfolding drawn_at
none_drawn G top left none = ap (option_and_then (λ right. option_map (rectangle_at top left right) (bottom_of G top left right))) (first_from-is (has_bottom G top left) (left + 1) (width G) None none)

pub one_drawn : (G : Grid) (top left right bottom : ℕ) → left < right → right < width G → NoneFrom (has_bottom G top left) (left + 1) right → Some bottom ≡ bottom_of G top left right
    → Some (rectangle_at top left right bottom) ≡ drawn_at G top left
unfolding drawn_at
one_drawn G top left right bottom wide inside none is =
    ap (option_map (rectangle_at top left right)) is
    ∙ ap (option_and_then (λ right. option_map (rectangle_at top left right) (bottom_of G top left right)))
    (first_from-is (has_bottom G top left) (left + 1) (width G) (Some right) (omega arith, inside, sym (ap is_some is), none))
