-- Roman numerals in their canonical form (Markup Specification, 'Enumerated Lists'): a digit each for thousands, hundreds,
-- tens and ones.
use Rattle.std.specs.Prelude.{ℕ, zero, suc, ◌/◌, ◌%◌, Bool, ◌||◌, ◌==◌, List, [], ◌∷◌, ◌++◌, codes, drop, get_or, if◌then◌else◌, length, map, take, Option}
use Rattle.std.specs.Str.{bytes_eq}
use Rattle.rst_text.specs.Places.{first_from}
use Rattle.rst_markup_lines.specs.declared.enumerator.Case.{Case}
use Rattle.rst_markup_lines.specs.declared.enumerator.Case.TheVariants.{Lower, Upper}
use Rattle.rst_markup_lines.specs.declared.roman.RomanPlace.{RomanPlace}
use Rattle.rst_markup_lines.specs.declared.roman.RomanPlace.TheVariants.{Thousands, Hundreds, Tens, Ones}

-- the letters of the digits from 1 on in a place: 9 is one before ten and 4 is one before five, else there is a five from 5 on, and ones
abbrev pub roman_digits : Case → RomanPlace → List (List ℕ)
roman_digits Lower Thousands = map codes ("m" ∷ "mm" ∷ "mmm" ∷ "mmmm" ∷ [])
roman_digits Lower Hundreds = map codes ("c" ∷ "cc" ∷ "ccc" ∷ "cd" ∷ "d" ∷ "dc" ∷ "dcc" ∷ "dccc" ∷ "cm" ∷ [])
roman_digits Lower Tens = map codes ("x" ∷ "xx" ∷ "xxx" ∷ "xl" ∷ "l" ∷ "lx" ∷ "lxx" ∷ "lxxx" ∷ "xc" ∷ [])
roman_digits Lower Ones = map codes ("i" ∷ "ii" ∷ "iii" ∷ "iv" ∷ "v" ∷ "vi" ∷ "vii" ∷ "viii" ∷ "ix" ∷ [])
roman_digits Upper Thousands = map codes ("M" ∷ "MM" ∷ "MMM" ∷ "MMMM" ∷ [])
roman_digits Upper Hundreds = map codes ("C" ∷ "CC" ∷ "CCC" ∷ "CD" ∷ "D" ∷ "DC" ∷ "DCC" ∷ "DCCC" ∷ "CM" ∷ [])
roman_digits Upper Tens = map codes ("X" ∷ "XX" ∷ "XXX" ∷ "XL" ∷ "L" ∷ "LX" ∷ "LXX" ∷ "LXXX" ∷ "XC" ∷ [])
roman_digits Upper Ones = map codes ("I" ∷ "II" ∷ "III" ∷ "IV" ∷ "V" ∷ "VI" ∷ "VII" ∷ "VIII" ∷ "IX" ∷ [])

-- the letters of a digit, of these; 0 has none
abbrev pub letters_of : List (List ℕ) → ℕ → List ℕ
letters_of roman_digits zero = []
letters_of roman_digits (suc d) = get_or roman_digits d []

-- the numeral of a number below 5000: the letters of its digits
abbrev pub numeral_of : Case → ℕ → List ℕ
numeral_of case n =
    letters_of (roman_digits case Thousands) (n / 1000) ++ (letters_of (roman_digits case Hundreds) (n / 100 % 10)
    ++ (letters_of (roman_digits case Tens) (n / 10 % 10) ++ letters_of (roman_digits case Ones) (n % 10)))

-- the value of letters: the number of which they are the numeral, up to 4999, if there is one
unfoldable pub roman : Case → List ℕ → Option ℕ
roman case letters = first_from (λ n. bytes_eq (numeral_of case n) letters) 0 5000

-- ---- the letters

-- c, d, i, l, m, v, x
abbrev pub is_lower_numeral : ℕ → Bool
is_lower_numeral c = (c == 99 || (c == 100 || c == 105)) || ((c == 108 || c == 109) || (c == 118 || c == 120))

-- C, D, I, L, M, V, X
abbrev pub is_upper_numeral : ℕ → Bool
is_upper_numeral c = (c == 67 || (c == 68 || c == 73)) || ((c == 76 || c == 77) || (c == 86 || c == 88))

-- a letter that occurs in Roman numerals of some case
abbrev pub is_numeral_letter : ℕ → Bool
is_numeral_letter c = is_lower_numeral c || is_upper_numeral c

-- ---- a digit at the front of letters

-- the greatest digit up to one whose letters come first, and what is after them
unfoldable pub digit_to : List (List ℕ) → ℕ → List ℕ → ℕ × List ℕ
digit_to roman_digits zero t = (0, t)
digit_to roman_digits (suc d) t =
    let letters = letters_of roman_digits (suc d) in
    if bytes_eq (take (length letters) t) letters then (suc d, drop (length letters) t) else digit_to roman_digits d t

abbrev pub digit_at : List (List ℕ) → List ℕ → ℕ × List ℕ
digit_at roman_digits t = digit_to roman_digits (length roman_digits) t
