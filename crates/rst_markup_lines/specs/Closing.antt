-- Where marks are closed (Markup Specification, 'Escaping Mechanism', 'Field Lists', 'Hyperlink Targets',
-- 'Substitution Definitions', 'Literal Blocks').
use Rattle.std.specs.Prelude.{ℕ, ◌+◌, ◌-◌, Bool, not, ◌&&◌, ◌==◌, nat_lt, nat_le, List, drop, length, slice_index, Option}
use Rattle.rst_text.specs.Places.{first_from}
use Rattle.rst_text.specs.Characters.{has, is_dark}
use Rattle.rst_text.specs.Escapes.{is_escaped}
use Rattle.rst_markup_lines.specs.TextStart.{begins_with, is_loose}
use Rattle.rst_markup_lines.specs.declared.closing.Closing.{Closing}
use Rattle.rst_markup_lines.specs.declared.closing.Closing.TheVariants.{Colon, QuotedColon, ColonQuote, Bar, SpacedBar}

-- A character closes, after one that isn't white or after no such one, and before this text: a colon with a space or the
-- end after it, a backquote before such a colon, a colon before a backquote, a bar after a character that isn't white, or such a bar before a space.
unfoldable pub is_closing : Closing → Bool → ℕ → List ℕ → Bool
is_closing Colon dark c cs = c == 58 && is_loose cs
is_closing QuotedColon dark c cs = c == 96 && (begins_with 58 cs && is_loose (drop 1 cs))
is_closing ColonQuote dark c cs = c == 58 && begins_with 96 cs
is_closing Bar dark c cs = c == 124 && dark
is_closing SpacedBar dark c cs = c == 124 && (dark && begins_with 32 cs)

-- a character that isn't white comes before the place
abbrev pub is_after_dark : List ℕ → ℕ → Bool
is_after_dark t i = nat_lt 0 i && is_dark t (i - 1)

-- the character at the place closes, and isn't escaped
unfoldable pub closes : Closing → List ℕ → ℕ → Bool
closes closing t i = not (is_escaped t 0 i) && is_closing closing (is_after_dark t i) (slice_index t i) (drop (i + 1) t)

-- how many characters come before the first that closes: its place, from 0
abbrev pub closed : Closing → List ℕ → Option ℕ
closed closing t = first_from (closes closing t) 0 (length t)

-- a text ends in two colons of which the first isn't escaped: in `::`, by which a paragraph announces a literal block
abbrev pub ends_in_colons : List ℕ → Bool
ends_in_colons t = nat_le 2 (length t) && (has t (length t - 2) 58 && (has t (length t - 1) 58 && not (is_escaped t 0 (length t - 2))))
