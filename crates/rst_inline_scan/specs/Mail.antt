-- E-mail addresses (Markup Specification, 'Standalone Hyperlinks').
use Rattle.std.specs.Prelude.{ℕ, ◌+◌, ◌-◌, Bool, not, ◌&&◌, ◌||◌, ◌==◌, false, List, [], ◌∷◌, Option, None, Some, slice_index, length, unwrap_or, option_map, if◌then◌else◌}
use Rattle.std.specs.List.{list_any}
use Rattle.std.specs.Char.{is_ascii_alphanumeric}
use Rattle.rst_text.specs.Characters.{Text, has, is_among}
use Rattle.rst_text.specs.Escapes.{has_backslash}
use Rattle.rst_text.specs.Places.{first_from, last_from}
use Rattle.rst_inline_scan.specs.Registered.{ends_link}
use Rattle.rst_inline_scan.specs.declared.piece.Kind.TheVariants.{Address}
use Rattle.rst_inline_scan.specs.declared.piece.Piece.{Piece}

-- an ASCII letter or digit, or one of -_!~*'{|}/#?^`&=+$%
unfoldable pub is_address_char : ℕ → Bool
is_address_char c = is_ascii_alphanumeric c
    || is_among (45 ∷ 95 ∷ 33 ∷ 126 ∷ 42 ∷ 39 ∷ 123 ∷ 124 ∷ 125 ∷ 47 ∷ 35 ∷ 63 ∷ 94 ∷ 96 ∷ 38 ∷ 61 ∷ 43 ∷ 36 ∷ 37 ∷ []) c

-- the place holds such a character, or a backslash that is no part of an escaped backslash
abbrev pub is_address_at : Text → ℕ → Bool
is_address_at t k = is_address_char (slice_index t k) || (has t k 92 && not (has t (k + 1) 92))

-- an @ stands in a text or in its bytes
abbrev pub holds_at_sign : List ℕ → Bool
holds_at_sign t = list_any (λ c. c == 64) t

-- ---- the name, which is before the @

-- the place may be in a name: a dot has characters of addresses on both sides
abbrev pub is_in_user : Text → ℕ → Bool
is_in_user t k = is_address_at t k || (has t k 46 && (is_address_at t (k - 1) && is_address_at t (k + 1)))

-- the least place from the place on that may not be in a name, or the text's end
unfoldable pub user_stop : Text → ℕ → ℕ
user_stop t i = unwrap_or (first_from (λ k. not (is_in_user t k)) i (length t - i)) (length t)

-- an @ is at the place, and not escaped
abbrev pub has_at_sign : Text → ℕ → Bool
has_at_sign t k = has t k 64 && not (has t (k - 1) 92)

-- ---- the host, which is after it

-- the place may be in a host
abbrev pub is_in_host : Text → ℕ → Bool
is_in_host t k = is_address_at t k || has t k 46

-- the least place from the place on that may not be in a host, or the text's end
unfoldable pub host_stop : Text → ℕ → ℕ
host_stop t i = unwrap_or (first_from (λ k. not (is_in_host t k)) i (length t - i)) (length t)

-- the greatest end of the host that begins at the place, of two characters or more
unfoldable pub host_end : Text → ℕ → Option ℕ
host_end t i = if is_address_at t i then last_from (ends_link t) (i + 2) (host_stop t i - i) else None

-- ---- the whole

-- the end of an address whose @ is at the place, if one is
abbrev pub after_user : Text → ℕ → Option ℕ
after_user t k = if has_at_sign t k then host_end t (k + 1) else None

-- the end of the address that begins at the place
unfoldable pub address_end : Text → ℕ → Option ℕ
address_end t i = if is_address_at t i then after_user t (user_stop t i) else None

-- the address from one place up to another
abbrev pub address_piece : ℕ → ℕ → Piece
address_piece i e = record { kind = Address; from = i; content_from = i; content_to = e; to = e }

-- the address that begins at the place, if one does
unfoldable pub address : Text → ℕ → Option Piece
address t i = option_map (address_piece i) (address_end t i)

-- the end is that of the text
abbrev pub is_whole : Text → Option ℕ → Bool
is_whole t (Some e) = e == length t
is_whole t None = false

-- the whole text, which is without escapes, is one address
unfoldable pub is_address : Text → Bool
is_address t = not (has_backslash t) && is_whole t (address_end t 0)
