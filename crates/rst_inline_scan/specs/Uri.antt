-- Standalone hyperlinks (Markup Specification, 'Standalone Hyperlinks').
use Rattle.std.specs.Prelude.{◌≡◌, ℕ, ◌+◌, ◌-◌, Bool, true, false, not, ◌&&◌, ◌||◌, ◌==◌, nat_lt, List, [], ◌∷◌, Option, None, Some, slice_index, length, find, unwrap_or, option_map, option_and_then, codes, if◌then◌else◌}
use Rattle.std.specs.List.{list_all}
use Rattle.std.specs.Char.{to_ascii_lowercase, is_ascii_alphanumeric}
use Rattle.rst_text.specs.Characters.{Text, is_among}
use Rattle.rst_inline_scan.specs.Characters.{is_free_after}
use Rattle.rst_text.specs.Places.{first_from, last_from}
use Rattle.rst_inline_scan.specs.declared.piece.Kind.TheVariants.{Uri}
use Rattle.rst_inline_scan.specs.declared.piece.Piece.{Piece}

-- the character, which is in lower case, is at the place in any case
abbrev pub has_letter : Text → ℕ → ℕ → Bool
has_letter t i c = nat_lt i (length t) && to_ascii_lowercase (slice_index t i) == c

-- the string, which is in lower case, is at the place without regard to the case of letters of ASCII
abbrev pub has_any_case : Text → ℕ → Text → Bool
has_any_case t i [] = true
has_any_case t i (c ∷ cs) = has_letter t i c && has_any_case t (i + 1) cs

-- the schemes, with what is between them and what they name
abbrev pub schemes : List Text
schemes = codes "file://" ∷ codes "ftp://" ∷ codes "http://" ∷ codes "https://" ∷ codes "irc://" ∷ codes "mailto:" ∷ codes "news:" ∷ []

-- the place after the scheme that begins at the place
unfoldable pub scheme_end : Text → ℕ → Option ℕ
scheme_end t i = option_map (λ scheme. i + length scheme) (find (has_any_case t i) schemes)

-- an ASCII letter or digit, or one of -_.~!*'();/?:@&=$+,%#[]
unfoldable pub is_uri_char : ℕ → Bool
is_uri_char c = is_ascii_alphanumeric c
    || is_among (45 ∷ 95 ∷ 46 ∷ 126 ∷ 33 ∷ 42 ∷ 39 ∷ 40 ∷ 41 ∷ 59 ∷ 47 ∷ 63 ∷ 58 ∷ 64 ∷ 38 ∷ 61 ∷ 36 ∷ 43 ∷ 44 ∷ 37 ∷ 35 ∷ 91 ∷ 93 ∷ []) c

-- one of .,:;!?')] which end no URI
unfoldable pub is_uri_trail : ℕ → Bool
is_uri_trail c = is_among (46 ∷ 44 ∷ 58 ∷ 59 ∷ 33 ∷ 63 ∷ 39 ∷ 41 ∷ 93 ∷ []) c

-- the least place from the place on that holds no character of a URI, or the text's end
unfoldable pub uri_stop : Text → ℕ → ℕ
uri_stop t i = unwrap_or (first_from (λ k. not (is_uri_char (slice_index t k))) i (length t - i)) (length t)

-- the greatest end up to `stop` with no punctuation before it, that leaves something after the scheme
unfoldable pub uri_close : Text → ℕ → ℕ → Option ℕ
uri_close t i stop = last_from (λ e. not (is_uri_trail (slice_index t (e - 1)))) (i + 1) (stop - i)

-- the end of a URI by the place after its scheme, if it has one
abbrev pub uri_after_scheme : Text → ℕ → Option ℕ
uri_after_scheme t i = uri_close t i (uri_stop t i)

-- the end, if what follows it fits
abbrev pub if_free : Text → ℕ → Option ℕ
if_free t e = if is_free_after t e then Some e else None

-- the end of the URI that begins at the place, where what follows it fits
unfoldable pub uri_end : Text → ℕ → Option ℕ
uri_end t i = option_and_then (if_free t) (option_and_then (uri_after_scheme t) (scheme_end t i))

-- the standalone hyperlink from one place up to another
abbrev pub uri_piece : ℕ → ℕ → Piece
uri_piece i e = record { kind = Uri; from = i; content_from = i; content_to = e; to = e }

-- the standalone hyperlink that begins at the place, if one does
unfoldable pub uri : Text → ℕ → Option Piece
uri t i = option_map (uri_piece i) (uri_end t i)

-- the whole text is one URI
abbrev pub IsUri : Text → Type 0
IsUri t = uri_end t 0 ≡ Some (length t)

-- more follows the scheme, which ends at the place, each character is one of a URI, and the last may end one
abbrev pub is_uri_from : Text → Option ℕ → Bool
is_uri_from t (Some i) = nat_lt i (length t) && (list_all is_uri_char t && not (is_uri_trail (slice_index t (length t - 1))))
is_uri_from t None = false

-- the bytes are one URI, each a character
abbrev pub is_ascii_uri : Text → Bool
is_ascii_uri bytes = is_uri_from bytes (scheme_end bytes 0)
