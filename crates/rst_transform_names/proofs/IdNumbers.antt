-- Ids with numbers, as they are read.
use Rattle.std.proofs.Common.{◌≡◌, ◌≢◌, ℕ, zero, suc, ◌+◌, ◌^◌, ◌<◌, Bool, true, false, ◌&&◌, List, [], ◌∷◌, ◌++◌, length, get_or, drop, Option, Some, None, option_map, option_and_then, unwrap_or, nat_le, nat_lt, decimal, codes, bytes_eq, MatchOption, Result, Ok, Err, ◌≤◌, take, refl, sym, ap, ap₂, subst, ◌∙◌, arith, append_assoc, lt-ltb, ltb-true, le-leb, leb-true, true≢false, ◌==◌, eqb-true, take-append-drop}
use Rattle.std.specs.Prelude.{if◌then◌else◌}
use Rattle.std.specs.Borrow.{Bor}
use Rattle.std.specs.Result.{OkIff}
use Rattle.std.specs.Str.Parse.{AllDigits, digits_value, ParsesUnsigned}
use Rattle.std.specs.Str.{NoCharPasses}
use Rattle.std.specs.Str.Pattern.{RFindsChar}
use Rattle.std.proofs.lemmas.Str.Pattern.{NoCharPasses-char, drop_at_char}
use Rattle.std.proofs.lemmas.Bool.{and_from, and_parts, cond_both, ne_eqb}
use Rattle.std.proofs.lemmas.Fmt.{decimal_is_IsNumeral, first_decimal, decimal-digits_value}
use Rattle.std.proofs.lemmas.Str.{digit_value_digit}
use Rattle.std.proofs.lemmas.Str.Parse.{IsNumeralModel, numerals_by_value, tells_digits, parse_plain, digit_from_value, digits_value-take-le}
use Rattle.std.specs.Cmp.Lexicographic.{bytes_decides}
use Rattle.rst_transform_names.specs.Ids.{id_with_number, number_in, parts_from, id_parts, numbered_part, id_number}

-- ---- an id with a number, and the number in it

-- no character is c
abbrev Lacks : ℕ → List ℕ → Type 0
Lacks c text = (i : ℕ) → i < length text → get_or text i 0 ≢ c

lacks_hyphen : (ds : List ℕ) → AllDigits 10 ds → Lacks 45 ds
lacks_hyphen [] d i l e = omega arith
lacks_hyphen (c ∷ cs) d zero l e = omega (arith, digit_from_value c d.0)
lacks_hyphen (c ∷ cs) d (suc i) l e = lacks_hyphen cs d.1 i (omega arith) e

-- where there is no hyphen, there are no parts
no_parts : (text : List ℕ) → Lacks 45 text → id_parts text ≡ None
no_parts [] lacks = refl
no_parts (c ∷ cs) lacks = rw (no_parts cs (λ i l. lacks (suc i) (omega arith)), ne_eqb c 45 (lacks 0 (omega arith))) refl

-- a text is cut at its last hyphen
parts_at : (prefix back : List ℕ) → Lacks 45 back → id_parts (prefix ++ (45 ∷ back)) ≡ Some (prefix, back)
parts_at [] back lacks = ap (parts_from 45 back) (no_parts back lacks)
parts_at (c ∷ cs) back lacks = ap (parts_from c (cs ++ (45 ∷ back))) (parts_at cs back lacks)

abbrev AreParts : List ℕ → Option (List ℕ × List ℕ) → Type 0
AreParts text r = MatchOption r (Unit {0}) (λ parts. text ≡ parts.0 ++ (45 ∷ parts.1))

are_parts : (text : List ℕ) → AreParts text (id_parts text)
are_parts [] = tt
are_parts (c ∷ cs) = from (id_parts cs) (are_parts cs)
  where
    here : (b : Bool) → (c == 45) ≡ b → AreParts (c ∷ cs) (if b then Some ([], cs) else None)
    here true e = ap (λ x. x ∷ cs) (eqb-true c 45 e)
    here false e = tt

    from : (r : Option (List ℕ × List ℕ)) → AreParts cs r → AreParts (c ∷ cs) (parts_from c cs r)
    from None h = here (c == 45) refl
    from (Some parts) h = ap (λ l. c ∷ l) h

numbered_is : (base : List ℕ) (n : ℕ) → id_with_number base n ≡ base ++ (45 ∷ decimal n)
numbered_is base n = append_assoc base (codes "-") (decimal n)

number_by : (digits : List ℕ) (n : ℕ) → digits_value 10 digits ≡ n → digits ≡ decimal n → 0 < n → n < 2 ^ 64 → number_in digits ≡ Some n
number_by digits n value is some small = rw (value, (bytes_decides digits (decimal n)).1 is, lt-ltb 0 n some, lt-ltb n (2 ^ 64) small) refl

pub id_number-id_with_number : (base : List ℕ) (n : ℕ) → 0 < n → n < 2 ^ 64 → id_number (id_with_number base n) ≡ Some (base, n)
id_number-id_with_number base n some small =
    ap (λ l. option_and_then numbered_part (id_parts l)) (numbered_is base n)
    ∙ ap (option_and_then numbered_part) (parts_at base (decimal n) (lacks_hyphen (decimal n) (decimal_is_IsNumeral n small).0.1))
    ∙ ap (option_map (λ k. (base, k))) (number_by (decimal n) n (decimal_is_IsNumeral n small).1 refl some small)

-- what is read of digits: a number from 1 whose digits they are, or nothing
number_cases : (d : List ℕ) (P : Option ℕ → Type 0) → (d ≡ decimal (digits_value 10 d) → 0 < digits_value 10 d → digits_value 10 d < 2 ^ 64 → P (Some (digits_value 10 d)))
    → P None → P (number_in d)
number_cases d P some none =
    let v = digits_value 10 d in
    cond_both (bytes_eq d (decimal v) && (nat_lt 0 v && nat_lt v (2 ^ 64))) _ _ P (λ t.
    let outer = and_parts (bytes_eq d (decimal v)) _ t in
    let inner = and_parts (nat_lt 0 v) (nat_lt v (2 ^ 64)) outer.1 in
    some ((bytes_decides d (decimal v)).0 outer.0) (ltb-true 0 v inner.0) (ltb-true v (2 ^ 64) inner.1)) (λ f. none)

number_in-is : (d : List ℕ) (n : ℕ) → number_in d ≡ Some n → (d ≡ decimal n) × (0 < n) × (n < 2 ^ 64)
number_in-is d n h = number_cases d (λ o. o ≡ Some n → (d ≡ decimal n) × (0 < n) × (n < 2 ^ 64))
    (λ is some small e. subst (λ m. (d ≡ decimal m) × (0 < m) × (m < 2 ^ 64)) (ap (λ (o : Option ℕ). unwrap_or o 0) e) (is, some, small)) (λ e. absurd (cc)) h

pub some_same : (p q : List ℕ × ℕ) → ◌≡◌ {A = Option (List ℕ × ℕ)} (Some p) (Some q) → p ≡ q
some_same p q e = ap (λ (o : Option (List ℕ × ℕ)). unwrap_or o p) e

pub id_number-is : (id base : List ℕ) (n : ℕ) → id_number id ≡ Some (base, n) → (id ≡ id_with_number base n) × (0 < n) × (n < 2 ^ 64)
id_number-is id base n h = from (id_parts id) (are_parts id) h
  where
    Read : List ℕ × ℕ → Type 0
    Read p = (id ≡ id_with_number p.0 p.1) × (0 < p.1) × (p.1 < 2 ^ 64)

    through : (prefix back : List ℕ) (o : Option ℕ) → id ≡ prefix ++ (45 ∷ back) → number_in back ≡ o → option_map {U = List ℕ × ℕ} (λ k. (prefix, k)) o ≡ Some (base, n) → Read (base, n)
    through prefix back None is e h = absurd (cc)
    through prefix back (Some k) is e h =
        let read = number_in-is back k e in
        subst Read (some_same (prefix, k) (base, n) h) (is ∙ ap (λ l. prefix ++ (45 ∷ l)) read.0 ∙ sym (numbered_is prefix k), read.1, read.2)

    from : (r : Option (List ℕ × List ℕ)) → AreParts id r → option_and_then numbered_part r ≡ Some (base, n) → Read (base, n)
    from None parts h = absurd (cc)
    from (Some split) parts h = through split.0 split.1 (number_in split.1) parts refl h

-- ---- a number that is read

-- digits that are none of a number from 1
no_number : (digits : List ℕ) → ((n : ℕ) → digits ≡ decimal n → 0 < n → n < 2 ^ 64 → ⊥) → number_in digits ≡ None
no_number digits never = number_cases digits (λ o. o ≡ None) (λ is some small. absurd (never _ is some small)) refl

own : IsNumeralModel (AllDigits 10) (digits_value 10)
own = numerals_by_value (AllDigits 10) tells_digits

first_digit : (ds : List ℕ) → 0 < length ds → AllDigits 10 ds → get_or ds 0 0 ≤ 57
first_digit [] some d = absurd (omega arith)
first_digit (c ∷ cs) some d = omega (arith, digit_from_value c d.0)

value_pos : (ds : List ℕ) → 49 ≤ get_or ds 0 0 → AllDigits 10 ds → 0 < digits_value 10 ds
value_pos [] first d = absurd (omega arith)
value_pos (c ∷ cs) first d =
    let value = digit_value_digit c (digit_from_value c d.0) in
    omega (arith, value, digits_value-take-le 10 (c ∷ cs) 1 (omega arith))

module _ (digits : List ℕ) where
  first_range : (nat_le 49 (get_or digits 0 0) && nat_le (get_or digits 0 0) 57) ≡ true → (49 ≤ get_or digits 0 0) × (get_or digits 0 0 ≤ 57)
  first_range h =
      let parts = and_parts (nat_le 49 (get_or digits 0 0)) (nat_le (get_or digits 0 0) 57) h in
      (leb-true 49 (get_or digits 0 0) parts.0, leb-true (get_or digits 0 0) 57 parts.1)

  -- what comes first in a number from 1
  pub no_first : (nat_le 49 (get_or digits 0 0) && nat_le (get_or digits 0 0) 57) ≡ false → number_in digits ≡ None
  no_first h = no_number digits (λ n is some small.
      let first : 48 < get_or digits 0 0 = subst (λ l. 48 < get_or l 0 0) (sym is) (first_decimal n some small) in
      let numeral = (decimal_is_IsNumeral n small).0 in
      let last : get_or digits 0 0 ≤ 57 = subst (λ l. get_or l 0 0 ≤ 57) (sym is) (first_digit (decimal n) numeral.0 numeral.1) in
      absurd (true≢false (sym (and_from _ _ (le-leb 49 (get_or digits 0 0) (omega arith)) (le-leb (get_or digits 0 0) 57 last)) ∙ h)))

  module _ (range : (nat_le 49 (get_or digits 0 0) && nat_le (get_or digits 0 0) 57) ≡ true) where
    parsed : {E : Type 0} (r : Result ℕ E) → ParsesUnsigned 64 10 digits r → OkIff r (AllDigits 10 digits × (0 < length digits) × (digits_value 10 digits < 2 ^ 64)) (digits_value 10 digits)
    parsed r h = parse_plain own 64 digits r h (λ plus. let first = first_range range in absurd (omega arith))

    pub reads : (n : ℕ) → ParsesUnsigned {E = Unit {0}} 64 10 digits (Ok n) → number_in digits ≡ Some n
    reads n h =
        let first = first_range range in
        let read = parsed {E = Unit {0}} (Ok n) h in
        let back : decimal (digits_value 10 digits) ≡ digits = decimal-digits_value own digits read.0.0 read.0.1 (λ zero. absurd (omega arith)) read.0.2 in
        let some : 0 < digits_value 10 digits = value_pos digits (omega arith) read.0.0 in
        number_by digits n (sym read.1) (sym back ∙ ap decimal (sym read.1)) (omega (arith, some, read.1)) (omega (arith, read.0.2, read.1))

    pub unread : {E : Type 0} (e : E) → ParsesUnsigned 64 10 digits (Err e) → number_in digits ≡ None
    unread e h = no_number digits (λ n is some small.
        let numeral = decimal_is_IsNumeral n small in
        parsed (Err e) h (subst (AllDigits 10) (sym is) numeral.0.1, subst (λ l. 0 < length l) (sym is) numeral.0.0, subst (λ l. digits_value 10 l < 2 ^ 64) (sym is) (subst (λ m. m < 2 ^ 64) (sym numeral.1) small)))

-- the parts of an id, as they are split
pub id_number-split : (id : List ℕ) (r : Option (Bor (List ℕ) × Bor (List ℕ)))
    → MatchOption r (RFindsChar 45 id None) (λ x. (i : ℕ) × (j : ℕ) × RFindsChar 45 id (Some (i, j)) × (x.0.now ≡ take i id) × (x.1.now ≡ drop j id) × (i ≤ j) × (length x.0.now ≡ i) × (length x.1.now + j ≡ length id))
    → id_number id ≡ option_and_then numbered_part (option_map (λ x. (x.0.now, x.1.now)) r)
id_number-split id None h = ap (option_and_then numbered_part) (no_parts id (λ i l e. NoCharPasses-char 45 id i h (omega arith) l e))
id_number-split id (Some x) h =
    let i = h.0 in
    let j = h.1 in
    let whole : id ≡ x.0.now ++ (45 ∷ x.1.now) = sym (take-append-drop i id) ∙ ap₂ (λ l m. l ++ m) (sym h.3) (drop_at_char 45 id i j h.2.1 (omega arith) ∙ ap (λ l. 45 ∷ l) (sym h.4)) in
    ap (λ l. option_and_then numbered_part (id_parts l)) whole
    ∙ ap (option_and_then numbered_part) (parts_at x.0.now x.1.now (λ k l e. NoCharPasses-char 45 x.1.now k (subst (NoCharPasses (λ d. d == 45)) (sym h.4) h.2.0) (omega arith) l e))
