-- Enumerators (Markup Specification, 'Enumerated Lists').
use Rattle.std.specs.Prelude.{ℕ, suc, ◌+◌, ◌-◌, Bool, true, false, ◌&&◌, ◌||◌, ◌==◌, nat_lt, not, unwrap_or, List, take, drop, if◌then◌else◌, Option, None, Some}
use Rattle.std.specs.Char.{is_ascii_lowercase, is_ascii_uppercase, is_ascii_digit, is_ascii_alphabetic}
use Rattle.std.specs.Option.{option_and_then, option_map, option_or}
use Rattle.rst_markup_lines.specs.TextStart.{first, begins_with}
use Rattle.rst_markup_lines.specs.Class.{run}
use Rattle.rst_markup_lines.specs.Decimal.{number_of}
use Rattle.rst_markup_lines.specs.Roman.{roman, is_numeral_letter}
use Rattle.rst_markup_lines.specs.declared.class.Class.TheVariants.{Digit, Letter}
use Rattle.rst_markup_lines.specs.declared.enumerator.Case.{Case}
use Rattle.rst_markup_lines.specs.declared.enumerator.Case.TheVariants.{Lower, Upper}
use Rattle.rst_markup_lines.specs.declared.enumerator.Ordinals.{Ordinals}
use Rattle.rst_markup_lines.specs.declared.enumerator.Ordinals.TheVariants.{Auto, Arabic, Letters}
use Rattle.rst_markup_lines.specs.declared.enumerator.Written.{Written}
use Rattle.rst_markup_lines.specs.declared.enumerator.Format.{Format}
use Rattle.rst_markup_lines.specs.declared.enumerator.Format.TheVariants.{Parentheses, Parenthesis, Period}
use Rattle.rst_markup_lines.specs.declared.enumerator.Enumerator.{Enumerator}
use Rattle.rst_markup_lines.specs.declared.enumerator.Sequence.{Sequence}
use Rattle.rst_markup_lines.specs.declared.enumerator.Sequence.TheVariants.{Arabic as ArabicSequence, LowerAlpha, UpperAlpha, LowerRoman, UpperRoman}
use Rattle.rst_markup_lines.specs.declared.enumerator.Reading.{Reading}
use Rattle.rst_markup_lines.specs.Marker.{marker_of}

-- the case of a letter
abbrev pub case_of : ℕ → Case
case_of c = if is_ascii_lowercase c then Lower else Upper

-- the place of a letter in the alphabet, from 1
abbrev pub place_in_alphabet : ℕ → Option ℕ
place_in_alphabet c =
    if is_ascii_lowercase c then Some (c - 96)
    else if is_ascii_uppercase c then Some (c - 64)
    else None

-- one to nine digits; that more are no ordinal is a limit of the profile
unfoldable pub arabic_at : List ℕ → Option Written
arabic_at t =
    if run Digit t == 0 || nat_lt 9 (run Digit t) then None
    else Some (record { ordinals = Arabic (number_of (run Digit t) t); len = run Digit t })

-- a Roman numeral of n letters with this value
abbrev pub as_numeral : Case → ℕ → ℕ → Option Written
as_numeral case n value = Some (record { ordinals = Letters case None (Some value); len = n })

-- n letters with c at their front: one is a letter of the alphabet, and maybe a Roman numeral as well; more have to be
-- a Roman numeral in the case of the first
abbrev pub letters_by : ℕ → ℕ → List ℕ → Option Written
letters_by c n t =
    if n == 0 then None
    else if n == 1 then Some (record { ordinals = Letters (case_of c) (place_in_alphabet c) (roman (case_of c) (take n t)); len = n })
    else option_and_then (as_numeral (case_of c) n) (roman (case_of c) (take n t))

-- a single letter, which may be a Roman numeral as well, or a Roman numeral
unfoldable pub letters_at : List ℕ → Option Written
letters_at t = option_and_then (λ c. letters_by c (run Letter t) t) (first t)

-- the ordinal at the front of a text: `#`, digits, a letter or a Roman numeral
unfoldable pub written_at : List ℕ → Option Written
written_at t = if begins_with 35 t then Some (record { ordinals = Auto; len = 1 }) else option_or (arabic_at t) (letters_at t)

-- A letter with this character after it, if there is one, is no ordinal and begins none: not both are letters of numerals, or
-- the other is neither a letter nor what ends an enumerator.
abbrev pub is_no_ordinal : ℕ → Option ℕ → Bool
is_no_ordinal letter None = true
is_no_ordinal letter (Some c) = if is_ascii_alphabetic c then not (is_numeral_letter letter && is_numeral_letter c) else not (c == 41 || c == 46)

-- such a letter, or what is neither a letter, a digit, `#` nor `(`
abbrev pub begins_no_enumerator : ℕ → Option ℕ → Bool
begins_no_enumerator c following = if is_ascii_alphabetic c then is_no_ordinal c following else not (is_ascii_digit c || (c == 35 || c == 40))

-- an enumerator of this format with an ordinal that follows `from` characters and before one more, if spaces or the
-- end are after it
abbrev pub framed : Format → ℕ → Written → List ℕ → Option Enumerator
framed format from w t = option_map (λ m. record { format = format; written = w; marker = m }) (marker_of (from + w.len + 1) t)

-- `(x)`, by its ordinal
abbrev pub between_parentheses : List ℕ → Written → Option Enumerator
between_parentheses t w = if begins_with 41 (drop (1 + w.len) t) then framed Parentheses 1 w t else None

-- `x)` or `x.`, by its ordinal
abbrev pub before_one : List ℕ → Written → Option Enumerator
before_one t w =
    if begins_with 41 (drop w.len t) then framed Parenthesis 0 w t
    else if begins_with 46 (drop w.len t) then framed Period 0 w t
    else None

-- `(x)`, `x)` or `x.`
unfoldable pub enumerator_of : List ℕ → Option Enumerator
enumerator_of t =
    if begins_with 40 t then option_and_then (between_parentheses t) (written_at (drop 1 t))
    else option_and_then (before_one t) (written_at t)

-- the second ordinal follows the first directly, where both are there
abbrev pub is_one_more : Option ℕ → Option ℕ → Bool
is_one_more (Some a) (Some b) = b == suc a
is_one_more _ _ = false

-- both are lower case, or both are upper case
abbrev pub is_same_case : Case → Case → Bool
is_same_case Lower Lower = true
is_same_case Upper Upper = true
is_same_case _ _ = false

-- both are between parentheses, or both before one, or both before a period
abbrev pub is_same_format : Format → Format → Bool
is_same_format Parentheses Parentheses = true
is_same_format Parenthesis Parenthesis = true
is_same_format Period Period = true
is_same_format _ _ = false

-- the next ordinal in a sequence and case under any reading; `#` is next to any, and after it only `#` is
abbrev pub is_next : Ordinals → Ordinals → Bool
is_next _ Auto = true
is_next (Arabic a) (Arabic b) = is_one_more (Some a) (Some b)
is_next (Letters c a r) (Letters d b s) = is_same_case c d && (is_one_more a b || is_one_more r s)
is_next _ _ = false

-- an enumerator with text after it goes on with the list of another: it has the same format and the next ordinal
abbrev pub is_next_of : Enumerator → Option Enumerator → Bool
is_next_of e None = false
is_next_of e (Some f) = not f.marker.bare && (is_same_format e.format f.format && is_next e.written.ordinals f.written.ordinals)

-- a line that begins with a next enumerator and a space
unfoldable pub begins_next : Enumerator → List ℕ → Bool
begins_next e t = is_next_of e (enumerator_of t)

-- the sequence of the letters of a case
abbrev pub alphabet_of : Case → Sequence
alphabet_of Lower = LowerAlpha
alphabet_of Upper = UpperAlpha

-- the sequence of the Roman numerals of a case
abbrev pub numerals_of : Case → Sequence
numerals_of Lower = LowerRoman
numerals_of Upper = UpperRoman

-- a single letter at the beginning of a list: `i` or `I` is the Roman numeral one, any other a letter of the alphabet
abbrev pub first_letter : Case → ℕ → Option ℕ → Reading
first_letter c a None = record { sequence = alphabet_of c; ordinal = a }
first_letter c a (Some r) = if r == 1 then record { sequence = numerals_of c; ordinal = 1 } else record { sequence = alphabet_of c; ordinal = a }

-- the reading of a list's first ordinal
abbrev pub first_reading : Ordinals → Reading
first_reading Auto = record { sequence = ArabicSequence; ordinal = 1 }
first_reading (Arabic n) = record { sequence = ArabicSequence; ordinal = n }
first_reading (Letters c (Some a) r) = first_letter c a r
first_reading (Letters c None r) = record { sequence = numerals_of c; ordinal = unwrap_or r 0 }

-- the ordinal in a sequence
abbrev pub ordinal_in : Sequence → Ordinals → Option ℕ
ordinal_in ArabicSequence (Arabic n) = Some n
ordinal_in LowerAlpha (Letters Lower a r) = a
ordinal_in UpperAlpha (Letters Upper a r) = a
ordinal_in LowerRoman (Letters Lower a r) = r
ordinal_in UpperRoman (Letters Upper a r) = r
ordinal_in _ _ = None
