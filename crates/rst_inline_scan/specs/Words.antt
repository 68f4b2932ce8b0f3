-- Words: runs of ASCII letters and digits. No rule of markup: inside one nothing begins, so the scanner steps over it.
use Rattle.std.specs.Prelude.{◌≡◌, ℕ, ◌<◌, ◌≤◌, Bool, true, false, ◌&&◌, ◌||◌, nat_lt, slice_index, length}
use Rattle.std.specs.Char.{is_ascii_alphanumeric}
use Rattle.rst_text.specs.Characters.{Text, has}
use Rattle.rst_text.specs.SimpleNames.{is_name_at}

-- The run from one place up to another, which may be empty, is one of ASCII letters and digits, and none follows it.
pub record IsWord (t : Text) (from to : ℕ) : Type 0 where
  pub above : from ≤ to
  pub within : to ≤ length t
  pub letters : (k : ℕ) → from ≤ k → k < to → is_ascii_alphanumeric (slice_index t k) ≡ true
  pub stops : to < length t → is_ascii_alphanumeric (slice_index t to) ≡ false

-- what is at the place may go on with the name of a reference, end it, or end the scheme of a URI
unfoldable pub goes_on : Text → ℕ → Bool
goes_on t i = has t i 95 || (has t i 58 || (nat_lt i (length t) && is_name_at t i))
