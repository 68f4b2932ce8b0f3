-- Embedded URIs and aliases (Markup Specification, 'Embedded URIs and Aliases').
use Rattle.std.specs.Prelude.{ℕ, ◌+◌, ◌-◌, Bool, not, ◌&&◌, ◌||◌, ◌==◌, nat_lt, Option, None, Some, slice_index, length, unwrap_or, if◌then◌else◌}
use Rattle.rst_text.specs.Characters.{is_white, Text, has, without_white, is_dark}
use Rattle.rst_text.specs.Places.{last_from}
use Rattle.rst_text.specs.Escapes.{is_escaped, unescaped}
use Rattle.rst_inline.specs.Mail.{mailed}
use Rattle.rst_inline.specs.Parts.{part}

-- an unescaped `<` is at the place
unfoldable pub opens_angle : Text → ℕ → Bool
opens_angle t k = has t k 60 && not (is_escaped t 0 k)

-- the last character is this one, and not escaped
unfoldable pub ends_with : Text → ℕ → Bool
ends_with t c = has t (length t - 1) c && not (is_escaped t 0 (length t - 1))

-- the last unescaped `<`
unfoldable pub last_angle : Text → Option ℕ
last_angle t = last_from (opens_angle t) 0 (length t)

-- What is between the angle brackets is not empty and has no white at its edges, and what precedes `<` is white, or
-- nothing.
unfoldable pub fits_angle : Text → ℕ → Bool
fits_angle t k = nat_lt (k + 2) (length t) && (is_dark t (k + 1) && (is_dark t (length t - 2) && (k == 0 || is_white (slice_index t (k - 1)))))

-- the place of the `<`, if what precedes and follows it fits
abbrev pub angle_if : Text → Option ℕ → Option ℕ
angle_if t (Some k) = if fits_angle t k then Some k else None
angle_if t None = None

-- where the `<` of an embedded URI or alias is at the end of a phrase, if it has one
unfoldable pub embedded_at : Text → Option ℕ
embedded_at t = if ends_with t 62 then angle_if t (last_angle t) else None

-- ---- its parts

-- the place after the last character before k that is not white, 0 where there is none
unfoldable pub dark_end : Text → ℕ → ℕ
dark_end t k = unwrap_or (last_from (λ e. not (is_white (slice_index t (e - 1)))) 1 k) 0

-- what is between the angle brackets
abbrev pub enclosed : Text → ℕ → Text
enclosed t k = part t (k + 1) (length t - 1)

-- An alias ends in an unescaped underscore, and has something before it.
unfoldable pub is_alias : Text → Bool
is_alias u = nat_lt 1 (length u) && ends_with u 95

-- what an embedded URI or alias refers to: the alias without its underscore, or the URI without white; both without escapes
abbrev pub meant : Bool → Text → Text
meant mail u = if is_alias u then unescaped (part u 0 (length u - 1)) else mailed mail (without_white (unescaped u))

-- what is displayed of the phrase: without white before the `<` and without escapes, or, where nothing comes before it, what it
-- refers to
abbrev pub phrase_display_text : Bool → Text → ℕ → Text
phrase_display_text mail t k = if k == 0 then meant mail (enclosed t k) else unescaped (part t 0 (dark_end t k))
