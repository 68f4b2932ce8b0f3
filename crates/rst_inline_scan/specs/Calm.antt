-- Steps over what holds no markup. No rule of markup: the scanner is faster by them.
use Rattle.std.specs.Prelude.{◌≡◌, ℕ, ◌+◌, ◌<◌, ◌≤◌, Bool, true, not, ◌&&◌, ◌||◌, ◌==◌, nat_lt, [], ◌∷◌, map, slice_index, length, if◌then◌else◌}
use Rattle.std.specs.Char.{is_ascii_alphanumeric}
use Rattle.rst_text.specs.Characters.{Text, is_among}
use Rattle.rst_text.specs.SimpleNames.{is_joint}
use Rattle.rst_text.specs.Escapes.{is_escaped}
use Rattle.rst_inline_scan.specs.Pieces.{HasNoStart}

-- the byte for a character: any past ASCII are one
abbrev pub byte_of : ℕ → ℕ
byte_of c = if nat_lt c 128 then c else 128

-- each byte is the text's character at its place where that is ASCII, and past ASCII where the character is
abbrev pub AreBytesOf : Text → Text → Type 0
AreBytesOf t bytes = map byte_of bytes ≡ map byte_of t

-- none of * : [ \ _ ` |
abbrev pub is_calm : ℕ → Bool
is_calm c = not (is_among (42 ∷ 58 ∷ 91 ∷ 92 ∷ 95 ∷ 96 ∷ 124 ∷ []) c)

-- the place holds such a character, or an underscore with an ASCII letter or digit after it, which ends no name
abbrev pub is_calm_at : Text → ℕ → Bool
is_calm_at t i = is_calm (slice_index t i) || (slice_index t i == 95 && is_ascii_alphanumeric (slice_index t (i + 1)))

-- each place from one up to another is so
abbrev pub AreCalm : Text → ℕ → ℕ → Type 0
AreCalm t from to = (k : ℕ) → from ≤ k → k < to → is_calm_at t k ≡ true

-- past ASCII, an ASCII letter or digit, or a joint: what a name or a scheme may hold is one of these
abbrev pub is_of_name : ℕ → Bool
is_of_name c = not (nat_lt c 128) || (is_ascii_alphanumeric c || is_joint c)

-- Plain text goes from one place on up to another: there is no start between, and it is known whether the character at the other is escaped.
pub record IsScanned (mail registered : Bool) (t : Text) (from place : ℕ) (known : Bool) : Type 0 where
  pub above : from ≤ place
  pub within : place ≤ length t
  pub none : HasNoStart mail registered t from from place
  pub escaped : known ≡ is_escaped t from place
