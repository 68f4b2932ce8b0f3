-- Texts of ordinary bytes, which are read faster. No rule of markup: no character that ends a line, no tab, form feed or vertical
-- tab begins with such a byte.
use Rattle.std.specs.Prelude.{◌≡◌, ℕ, ◌<◌, Bool, true, not, ◌&&◌, ◌||◌, ◌==◌, nat_lt, List, slice_index, length}
use Rattle.rst_text.specs.Runs.{IsRun}

-- an ordinary byte: none of an ASCII control character, DEL apart, nor the first of U+0080 to U+00BF or of U+2000 to U+2FFF
abbrev pub is_ordinary : ℕ → Bool
is_ordinary b = nat_lt 31 b && not (b == 0xC2 || b == 0xE2)

-- each byte is ordinary
abbrev pub AreOrdinary : List ℕ → Type 0
AreOrdinary text = (i : ℕ) → i < length text → is_ordinary (slice_index text i) ≡ true

-- the n bytes at the front are ordinary, and the next isn't
abbrev pub IsOrdinaryTo : List ℕ → ℕ → Type 0
IsOrdinaryTo text n = IsRun is_ordinary text 0 n
