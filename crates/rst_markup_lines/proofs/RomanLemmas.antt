-- A Roman numeral is read digit by digit: each of the 5000 is read as its number, which is computed for all of them.
use Rattle.std.proofs.Common.{◌≡◌, ⊎_elim, inl, inr, ℕ, zero, suc, ◌+◌, ◌-◌, ◌*◌, ◌<◌, ◌≤◌, Bool, true, false, ◌==◌, cond, List, [], ◌∷◌, ◌++◌, length, get_or, take, drop, Option, Some, None, refl, sym, ap, ◌∙◌, arith}
use Rattle.std.proofs.Math.Utf8.{encodes}
use Rattle.std.specs.Prelude.{◌/◌, ◌%◌, unwrap_or}
use Rattle.std.specs.Str.{bytes_eq, chars, IsUtf8}
use Rattle.std.proofs.lemmas.Bool.{eqb-true}
use Rattle.std.proofs.lemmas.List.{take-append-drop, append-nil, nil_from_length}
use Rattle.std.specs.Cmp.Lexicographic.{bytes_decides}
use Rattle.std.proofs.lemmas.Str.{encode_ascii, encodes-chars}
use Rattle.rst_text.specs.Places.{all_from, IsFirst}
use Rattle.rst_text.proofs.PlacesLemmas.{all_from-at, cases_bool, first_from-is}
use Rattle.rst_markup_lines.proofs.Runs.{run_cons}
use Rattle.rst_markup_lines.proofs.OptionLemmas.{run_le}
use Rattle.rst_text.proofs.LinesLemmas.{length-chars}
use Rattle.rst_markup_lines.specs.Class.{is_in, run}
use Rattle.rst_markup_lines.specs.Roman.{roman_digits, digit_at, digit_to, letters_of, numeral_of, roman}
use Rattle.rst_markup_lines.specs.declared.class.Class.TheVariants.{Letter}
use Rattle.rst_markup_lines.specs.declared.enumerator.Case.{Case}
use Rattle.rst_markup_lines.specs.declared.enumerator.Case.TheVariants.{Lower, Upper}
use Rattle.rst_markup_lines.specs.declared.roman.RomanPlace.TheVariants.{Thousands, Hundreds, Tens, Ones}

-- the number that letters are read as, digit by digit, if nothing is left
abbrev pub read_numeral : Case → List ℕ → Option ℕ
read_numeral case t =
    let m = digit_at (roman_digits case Thousands) t in
    let h = digit_at (roman_digits case Hundreds) m.1 in
    let x = digit_at (roman_digits case Tens) h.1 in
    let i = digit_at (roman_digits case Ones) x.1 in
    cond (length i.1 == 0) (Some (m.0 * 1000 + h.0 * 100 + x.0 * 10 + i.0)) None

pub same_bytes : (a b : List ℕ) → bytes_eq a b ≡ true → a ≡ b
same_bytes a b h = (bytes_decides a b).0 h

-- ---- what is read is written

-- the letters of the digit that is found, and those after it
found : (ds : List (List ℕ)) (d : ℕ) (t : List ℕ) → (letters_of ds (digit_to ds d t).0 ++ (digit_to ds d t).1 ≡ t) × ((digit_to ds d t).0 ≤ d)
unfolding digit_to
found ds zero t = (refl, omega arith)
found ds (suc d) t =
    let letters : List ℕ = letters_of ds (suc d) in
    let rest = found ds d t in
    elim (cases_bool (bytes_eq (take (length letters) t) letters)) [
      | inl e ↦ rw e (ap (λ l. l ++ drop (length letters) t) (sym (same_bytes (take (length letters) t) letters e)) ∙ take-append-drop (length letters) t, omega arith)
      | inr e ↦ rw e (rest.0, omega (arith, rest.1))
    ]

-- a digit whose letters come first, or else one of those before it
pub digit_step : (ds : List (List ℕ)) (d : ℕ) (t l : List ℕ) (b : Bool) → 0 < d → l ≡ get_or ds (d - 1) [] → bytes_eq (take (length l) t) l ≡ b
    → digit_to ds d t ≡ cond b (d, drop (length l) t) (digit_to ds (d - 1) t)
unfolding digit_to
digit_step ds zero t l b some e h = absurd (omega arith)
digit_step ds (suc d) t l b some e h =
    let one : suc d - 1 ≡ d = omega arith in
    ap (λ k. cond (bytes_eq (take (length k) t) k) (suc d, drop (length k) t) (digit_to ds d t)) (sym (e ∙ ap (λ k. get_or ds k []) one))
    ∙ ap (λ b. cond b (suc d, drop (length l) t) (digit_to ds d t)) h ∙ ap (λ k. cond b (suc d, drop (length l) t) (digit_to ds k t)) (sym one)

pub digit_end : (ds : List (List ℕ)) (d : ℕ) (t : List ℕ) → d ≤ 0 → digit_to ds d t ≡ (0, t)
unfolding digit_to
digit_end ds zero t h = refl
digit_end ds (suc d) t h = absurd (omega arith)

few : (case : Case) → (length (roman_digits case Thousands) ≡ 4) × (length (roman_digits case Hundreds) ≡ 9) × (length (roman_digits case Tens) ≡ 9) × (length (roman_digits case Ones) ≡ 9)
few Lower = (refl, refl, refl, refl)
few Upper = (refl, refl, refl, refl)

written : (case : Case) (m h x i : ℕ) → m ≤ 4 → h ≤ 9 → x ≤ 9 → i ≤ 9
    → numeral_of case (m * 1000 + h * 100 + x * 10 + i)
    ≡ letters_of (roman_digits case Thousands) m ++ (letters_of (roman_digits case Hundreds) h ++ (letters_of (roman_digits case Tens) x ++ letters_of (roman_digits case Ones) i))
written case m h x i a b c d =
    let v : ℕ = m * 1000 + h * 100 + x * 10 + i in
    let thousands : v / 1000 ≡ m = omega arith in
    let hundreds : v / 100 % 10 ≡ h = omega arith in
    let tens : v / 10 % 10 ≡ x = omega arith in
    let ones : v % 10 ≡ i = omega arith in rw (thousands, hundreds, tens, ones) refl

read_sound : (case : Case) (v : ℕ) (t : List ℕ) → read_numeral case t ≡ Some v → (v < 5000) × (numeral_of case v ≡ t)
read_sound case v t e = by (length i.1 == 0) refl e
  where
    m : ℕ × List ℕ
    m = digit_at (roman_digits case Thousands) t

    h : ℕ × List ℕ
    h = digit_at (roman_digits case Hundreds) m.1

    x : ℕ × List ℕ
    x = digit_at (roman_digits case Tens) h.1

    i : ℕ × List ℕ
    i = digit_at (roman_digits case Ones) x.1

    by : (b : Bool) → (length i.1 == 0) ≡ b → cond b (Some (m.0 * 1000 + h.0 * 100 + x.0 * 10 + i.0)) None ≡ Some v → (v < 5000) × (numeral_of case v ≡ t)
    by false none e = cc
    by true none e =
        let a = found (roman_digits case Thousands) (length (roman_digits case Thousands)) t in
        let b = found (roman_digits case Hundreds) (length (roman_digits case Hundreds)) m.1 in
        let c = found (roman_digits case Tens) (length (roman_digits case Tens)) h.1 in
        let d = found (roman_digits case Ones) (length (roman_digits case Ones)) x.1 in
        let most = few case in
        let value : v ≡ m.0 * 1000 + h.0 * 100 + x.0 * 10 + i.0 = cc in
        let end : i.1 ≡ [] = nil_from_length i.1 (eqb-true (length i.1) 0 none) in
        let last : letters_of (roman_digits case Ones) i.0 ≡ x.1 = sym (append-nil _) ∙ ap (λ l. letters_of (roman_digits case Ones) i.0 ++ l) (sym end) ∙ d.0 in (
          omega (arith, value, a.1, b.1, c.1, d.1, most.0, most.1, most.2, most.3),
          ap (numeral_of case) value ∙ written case m.0 h.0 x.0 i.0 (omega (arith, a.1, most.0)) (omega (arith, b.1, most.1)) (omega (arith, c.1, most.2)) (omega (arith, d.1, most.3))
              ∙ rw (last, c.0, b.0) a.0,
        )

-- ---- what is written is read

-- 5000 is no number of a numeral
reads : Case → ℕ → Bool
reads case n = unwrap_or (read_numeral case (numeral_of case n)) 5000 == n

all_read : (case : Case) → all_from (reads case) 0 5000 ≡ true
unfolding digit_to reads
all_read Lower = refl
all_read Upper = refl

read_complete : (case : Case) (n : ℕ) → n < 5000 → read_numeral case (numeral_of case n) ≡ Some n
unfolding reads
read_complete case n less = by (read_numeral case (numeral_of case n)) refl
  where
    is : unwrap_or (read_numeral case (numeral_of case n)) 5000 ≡ n
    is = eqb-true _ n (all_from-at (reads case) 0 5000 (all_read case) n (omega arith) (omega arith))

    by : (r : Option ℕ) → read_numeral case (numeral_of case n) ≡ r → r ≡ Some n
    by None e = absurd (let other : 5000 ≡ n = ap (λ r. unwrap_or r 5000) (sym e) ∙ is in omega arith)
    by (Some v) e = ap Some (ap (λ r. unwrap_or r 5000) (sym e) ∙ is)

roman_is : (case : Case) (t : List ℕ) → roman case t ≡ read_numeral case t
unfolding roman
roman_is case t = sym (first_from-is test 0 5000 (read_numeral case t) (by (read_numeral case t) refl))
  where
    test : ℕ → Bool
    test k = bytes_eq (numeral_of case k) t

    no : (k : ℕ) → k < 5000 → (read_numeral case t ≡ Some k → ⊥) → test k ≡ false
    no k less never = ⊎_elim (λ yes. absurd (never (ap (read_numeral case) (sym (same_bytes (numeral_of case k) t yes)) ∙ read_complete case k less))) (λ f. f) (cases_bool (test k))

    by : (r : Option ℕ) → read_numeral case t ≡ r → IsFirst test 0 5000 r
    by None e = λ k low below. no k below (λ read. let both : None ≡ Some k = sym e ∙ read in cc)
    by (Some v) e =
        let sound = read_sound case v t e in
        let found : test v ≡ true = ap (λ l. bytes_eq l t) sound.1 ∙ (bytes_decides t t).1 refl in
        (omega arith, sound.0, found, λ k low below. no k (omega (arith, below, sound.0)) (λ read. let both : Some v ≡ Some k = sym e ∙ read in let same : v ≡ k = cc in absurd (omega (arith, below, same))))

-- ---- letters are bytes

letters_first : (t : List ℕ) → take (run Letter t) (encodes t) ≡ take (run Letter t) t
unfolding run is_in
letters_first [] = refl
letters_first (c ∷ cs) =
    ap (λ n. take n (encodes (c ∷ cs))) (run_cons Letter c cs) ∙ by (is_in Letter c) refl (letters_first cs) ∙ sym (ap (λ n. take n (c ∷ cs)) (run_cons Letter c cs))
  where
    by : (b : Bool) → is_in Letter c ≡ b → take (run Letter cs) (encodes cs) ≡ take (run Letter cs) cs
        → take (cond b (suc (run Letter cs)) 0) (encodes (c ∷ cs)) ≡ take (cond b (suc (run Letter cs)) 0) (c ∷ cs)
    by true e rest = ap (λ l. take (suc (run Letter cs)) (l ++ encodes cs)) (encode_ascii c (grind arith)) ∙ ap (λ l. c ∷ l) rest
    by false e rest = refl

pub letters_in : (s : List ℕ) (n : ℕ) → IsUtf8 s → n ≡ run Letter (chars s) → (take n s ≡ take n (chars s)) × (n ≤ length s)
letters_in s n u e = (
  ap (take n) (sym (encodes-chars s u)) ∙ ap (λ k. take k (encodes (chars s))) e ∙ letters_first (chars s) ∙ ap (λ k. take k (chars s)) (sym e),
  omega (arith, e, run_le Letter (chars s), length-chars s u),
)

-- what is read of the letters of a text, by the digits that are found and what is after each
pub read_by : (case : Case) (s bytes a b c d : List ℕ) (n m h x i : ℕ) → IsUtf8 s → n ≡ run Letter (chars s) → bytes ≡ s → (m, a) ≡ digit_at (roman_digits case Thousands) (take n bytes)
    → (h, b) ≡ digit_at (roman_digits case Hundreds) a → (x, c) ≡ digit_at (roman_digits case Tens) b → (i, d) ≡ digit_at (roman_digits case Ones) c → (e : Bool) → (length d == 0) ≡ e
    → cond e (Some (m * 1000 + h * 100 + x * 10 + i)) None ≡ roman case (take n (chars s))
read_by case s bytes a b c d n m h x i u size same p q r o e end =
    sym (ap (roman case) (sym (letters_in s n u size).0 ∙ ap (take n) (sym same)) ∙ roman_is case (take n bytes) ∙ rw (sym p) (rw (sym q) (rw (sym r) (rw (sym o) (rw end refl)))))
