-- Inline markup between a start-string and an end-string (Markup Specification, 'Inline markup recognition rules',
-- 'Emphasis', 'Strong Emphasis', 'Interpreted Text', 'Inline Literals', 'Inline Internal Targets', 'Substitution References').
use Rattle.std.specs.Prelude.{ℕ, ◌+◌, ◌-◌, Bool, true, false, not, ◌&&◌, ◌||◌, ◌==◌, Option, None, Some, [], ◌∷◌, slice_index, length, unwrap_or, option_map, option_and_then, codes, if◌then◌else◌}
use Rattle.std.specs.Option.{is_some, option_or}
use Rattle.rst_text.specs.Characters.{Text, has, is_dark}
use Rattle.rst_inline_scan.specs.Characters.{has_string, is_pair}
use Rattle.rst_text.specs.Escapes.{is_escaped}
use Rattle.rst_text.specs.Places.{first_from}
use Rattle.rst_inline_scan.specs.declared.piece.Tail.{Tail}
use Rattle.rst_inline_scan.specs.Tails.{name_tail, role_tail, bare_tail}
use Rattle.rst_inline_scan.specs.Names.{role_end}
use Rattle.rst_inline_scan.specs.declared.piece.Markup.{Markup}
use Rattle.rst_inline_scan.specs.declared.piece.Markup.TheVariants.{Strong, Emphasis, Literal, Target, Substitution, Interpreted}
use Rattle.rst_inline_scan.specs.declared.piece.Kind.TheVariants.{Marked, Unended}
use Rattle.rst_inline_scan.specs.declared.piece.Piece.{Piece}

-- the start-string
abbrev pub start_string : Markup → Text
start_string Strong = codes "**"
start_string Emphasis = codes "*"
start_string Literal = codes "``"
start_string Target = codes "_`"
start_string Substitution = codes "|"
start_string Interpreted = codes "`"

-- the end-string is the same, but for a target
abbrev pub end_string : Markup → Text
end_string Target = codes "`"
end_string markup = start_string markup

-- the character of which the end-string consists
abbrev pub mark : Markup → ℕ
mark markup = slice_index (end_string markup) 0

-- how many characters the start-string has
abbrev pub start_len : Markup → ℕ
start_len markup = length (start_string markup)

-- how many characters the end-string has
abbrev pub end_len : Markup → ℕ
end_len markup = length (end_string markup)

-- a string of one character at the place has the same character after it
abbrev pub is_doubled : Text → ℕ → Text → Bool
is_doubled t i (c ∷ []) = has t (i + 1) c
is_doubled t i _ = false

-- the start-string is at the place, and one of a single character is not doubled
abbrev pub has_start : Markup → Text → ℕ → Bool
has_start markup t i = has_string t i (start_string markup) && not (is_doubled t i (start_string markup))

-- the end-string is at the place
abbrev pub has_end : Markup → Text → ℕ → Bool
has_end markup t i = has_string t i (end_string markup)

-- the only markup that may begin at the place: its start-string is there, or a role
unfoldable pub markup_of : Text → ℕ → Option Markup
markup_of t i =
    if has t i 42 then Some (if has t (i + 1) 42 then Strong else Emphasis)
    else if has t i 96 then Some (if has t (i + 1) 96 then Literal else Interpreted)
    else if has t i 95 && has t (i + 1) 96 then Some Target
    else if has t i 124 then Some Substitution
    else if has t i 58 then Some Interpreted
    else None

-- nothing is escaped inside a literal
abbrev pub has_escapes : Markup → Bool
has_escapes Literal = false
has_escapes _ = true

-- ---- the start

-- where the start-string of markup that begins at the place is: after a role, where interpreted text has one before it
unfoldable pub start_of : Markup → Text → ℕ → ℕ
start_of Interpreted t i = unwrap_or (role_end t i) i
start_of _ t i = i

-- Markup begins at i with its start-string at q: what follows the start-string is not white, and does not make a
-- matching pair with what precedes i.
unfoldable pub starts : Markup → Text → ℕ → ℕ → Bool
starts markup t i q = has_start markup t q && (is_dark t (q + start_len markup)
    && (i == 0 || not (is_pair (slice_index t (i - 1)) (slice_index t (q + start_len markup)))))

-- ---- the end

-- What follows the end-string at k, the first that fits: after a substitution `__`, `_` or nothing, after
-- interpreted text `__`, `_`, a role or nothing, after other markup nothing.
unfoldable pub tail_of : Markup → Text → ℕ → Option Tail
tail_of Substitution t k = option_or (name_tail t (k + 1)) (bare_tail t (k + 1))
tail_of Interpreted t k = option_or (name_tail t (k + 1)) (option_or (role_tail t (role_end t (k + 1))) (bare_tail t (k + 1)))
tail_of markup t k = bare_tail t (k + end_len markup)

-- Markup that begins at i may end at k: its end-string is there, unescaped unless it is a literal's, what precedes it
-- is not white, and what follows it fits.
unfoldable pub ends : Markup → Text → ℕ → ℕ → Bool
ends markup t i k = has_end markup t k && (is_dark t (k - 1) && (not (has_escapes markup && is_escaped t i k) && is_some (tail_of markup t k)))

-- the least end, with a character at least between it and the start-string at q
unfoldable pub markup_end : Markup → Text → ℕ → ℕ → Option ℕ
markup_end markup t i q = first_from (ends markup t i) (q + start_len markup + 1) (length t - (q + start_len markup + 1))

-- ---- the piece

-- a start without an end: the start-string alone, with the role before it
abbrev pub unended_piece : Markup → ℕ → ℕ → Piece
unended_piece markup i q = record { kind = Unended markup; from = i; content_from = q + start_len markup; content_to = q + start_len markup; to = q + start_len markup }

-- markup with its end-string at k and this after it
abbrev pub ended_piece : Markup → ℕ → ℕ → ℕ → Tail → Piece
ended_piece markup i q k tail = record { kind = Marked markup tail.suffix; from = i; content_from = q + start_len markup; content_to = k; to = tail.to }

-- the same with what follows the end-string at k
abbrev pub piece_ended_at : Markup → Text → ℕ → ℕ → ℕ → Option Piece
piece_ended_at markup t i q k = option_map (ended_piece markup i q k) (tail_of markup t k)

-- markup up to its end, or, where it has none, a start without an end
abbrev pub marked_piece : Markup → Text → ℕ → ℕ → Option ℕ → Piece
marked_piece markup t i q end = unwrap_or (option_and_then (piece_ended_at markup t i q) end) (unended_piece markup i q)

-- the piece of markup that begins at i with its start-string at q, if it may begin so
abbrev pub marked_from : Markup → Text → ℕ → ℕ → Option Piece
marked_from markup t i q = if starts markup t i q then Some (marked_piece markup t i q (markup_end markup t i q)) else None

-- the piece of markup that begins at the place, if such markup does
unfoldable pub marked : Markup → Text → ℕ → Option Piece
marked markup t i = marked_from markup t i (start_of markup t i)
