-- Numbers that words spell, as `parse` reads them.
use Rattle.std.proofs.Common.{◌≡◌, ◌≢◌, ℕ, ◌^◌, ◌<◌, ◌≤◌, Bool, true, false, ◌&&◌, nat_le, List, [], ◌∷◌, Some, None, Result, Ok, Err, refl, ap, sym, arith, get_or, length}
use Rattle.std.specs.Result.{OkIff}
use Rattle.std.specs.Str.{all_ascii_digits}
use Rattle.std.specs.Str.Parse.{digits_value, ParsesUnsigned}
use Rattle.std.proofs.lemmas.Bool.{and_parts, leb-true, le-leb, lt-leb}
use Rattle.std.proofs.lemmas.Str.{digit_value_digit}
use Rattle.std.proofs.lemmas.Str.Parse.{IsNumeralModel, numerals_by_value, tells_all_ascii_digits, parse_plain, digits_value-take-le}
use Rattle.rst2pseudoxml_options.specs.Values.{begins_from_one, number_to}

first_digit : (d : ℕ) (ds : List ℕ) → begins_from_one (d ∷ ds) ≡ true → (49 ≤ d) × (d ≤ 57)
first_digit d ds h =
    let parts = and_parts (nat_le 49 d) (nat_le d 57) h in
    (leb-true 49 d parts.0, leb-true d 57 parts.1)

some_digit : (text : List ℕ) → begins_from_one text ≡ true → 0 < length text
some_digit [] h = absurd (cc)
some_digit (d ∷ ds) h = omega arith

unsigned : (text : List ℕ) → begins_from_one text ≡ true → get_or text 0 0 ≢ 43
unsigned [] h = absurd (cc)
unsigned (d ∷ ds) h = λ plus. let digit = first_digit d ds h in absurd (omega arith)

own : IsNumeralModel (λ ds. all_ascii_digits ds ≡ true) (digits_value 10)
own = numerals_by_value (λ ds. all_ascii_digits ds ≡ true) tells_all_ascii_digits

parsed : {E : Type 0} (text : List ℕ) (r : Result ℕ E) → begins_from_one text ≡ true → ParsesUnsigned 32 10 text r → OkIff r ((all_ascii_digits text ≡ true) × (0 < length text) × (digits_value 10 text < 2 ^ 32)) (digits_value 10 text)
parsed text r first h = parse_plain own 32 text r h (unsigned text first)

-- a word that begins with none of 1 to 9 spells no such number
pub number_to-first : (most : ℕ) (text : List ℕ) → begins_from_one text ≡ false → number_to most text ≡ None
unfolding number_to
number_to-first most text h = rw h refl

-- one that `parse` reads spells what it reads, unless that is too great
pub number_to-read : (most : ℕ) (text : List ℕ) (number : ℕ) → begins_from_one text ≡ true → ParsesUnsigned {E = Unit {0}} 32 10 text (Ok number) → number ≤ most → number_to most text ≡ Some number
unfolding number_to
number_to-read most text number first h small =
    let read = parsed {E = Unit {0}} text (Ok number) first h in
    let fits : nat_le (digits_value 10 text) most ≡ true = le-leb (digits_value 10 text) most (omega (arith, read.1)) in
    rw (first, read.0.0, fits) (ap Some (sym read.1))

pub number_to-great : (most : ℕ) (text : List ℕ) (number : ℕ) → begins_from_one text ≡ true → ParsesUnsigned {E = Unit {0}} 32 10 text (Ok number) → most < number → number_to most text ≡ None
unfolding number_to
number_to-great most text number first h great =
    let read = parsed {E = Unit {0}} text (Ok number) first h in
    let fits : nat_le (digits_value 10 text) most ≡ false = lt-leb (digits_value 10 text) most (omega (arith, read.1)) in
    rw (first, read.0.0, fits) refl

-- not both of two tests
not_both : (a b : Bool) → ((a ≡ true) × (b ≡ true) → ⊥) → (a && b) ≡ false
not_both true true h = absurd (h (refl, refl))
not_both true false h = refl
not_both false b h = refl

-- and one that it refuses spells none
pub number_to-unread : {E : Type 0} (most : ℕ) (text : List ℕ) (e : E) → begins_from_one text ≡ true → ParsesUnsigned 32 10 text (Err e) → most < 2 ^ 32 → number_to most text ≡ None
unfolding number_to
number_to-unread most text e first h small =
    let none : (all_ascii_digits text && nat_le (digits_value 10 text) most) ≡ false = not_both _ _ (λ both. parsed text (Err e) first h (both.0, some_digit text first, omega (arith, leb-true (digits_value 10 text) most both.1))) in
    rw (first, none) refl

-- the number that is read is 1 or more
pub read-from_one : (text : List ℕ) (number : ℕ) → begins_from_one text ≡ true → ParsesUnsigned {E = Unit {0}} 32 10 text (Ok number) → 1 ≤ number
read-from_one [] number first h = absurd (cc)
read-from_one (d ∷ ds) number first h =
    let digit = first_digit d ds first in
    let value = digit_value_digit d (omega arith, digit.1) in
    omega (arith, value, (parsed {E = Unit {0}} (d ∷ ds) (Ok number) first h).1, digits_value-take-le 10 (d ∷ ds) 1 (omega arith))
