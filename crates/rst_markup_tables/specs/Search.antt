-- Where the runs of `-` and `+` begin, which keeps the search for rectangles short. No rule of markup.
use Rattle.std.specs.Prelude.{ℕ, zero, suc, ◌+◌, List, [], map, if◌then◌else◌, get_or, length}
use Rattle.std.specs.List.{range_with_len}
use Rattle.rst_markup_tables.specs.Places.{Row, mark_at}
use Rattle.rst_markup_tables.specs.Drawn.{is_across}
use Rattle.rst_markup_tables.specs.declared.places.Place.{Place}

-- where the run begins that ends before a place, which is that place if it is no run
abbrev pub run_begin : List Place → ℕ → ℕ
run_begin row zero = zero
run_begin row (suc n) = if is_across (mark_at row n) then run_begin row n else suc n

-- for each place of a row where the run through it begins
abbrev pub begins_of : Row → List ℕ
begins_of r = map (λ j. run_begin r.places (j + 1)) (range_with_len 0 (length r.places))

-- the number at a place of such rows, 0 past the end
unfoldable pub begin_at : List (List ℕ) → ℕ → ℕ → ℕ
begin_at begins i j = get_or (get_or begins i []) j 0
