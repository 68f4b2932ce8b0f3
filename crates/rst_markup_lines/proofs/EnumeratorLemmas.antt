-- A line that begins with a word has no enumerator.
use Rattle.std.proofs.Common.{◌≡◌, ℕ, zero, suc, ◌-◌, sub-one, arith, ◌==◌, ◌&&◌, ◌||◌, Bool, true, false, true≢false, cond, List, [], ◌∷◌, take, drop, Option, None, Some, refl, sym, ap, ◌∙◌}
use Rattle.std.specs.Prelude.{nat_lt, not}
use Rattle.std.specs.Char.{is_ascii_digit, is_ascii_alphabetic}
use Rattle.std.specs.List.{list_all}
use Rattle.std.proofs.lemmas.Bool.{ne_eqb, lt-ltb, or_parts, not-true}
use Rattle.std.proofs.lemmas.Bool.Decides.{nat_tests}
use Rattle.std.proofs.Math.Dec.{eqb-suc-suc}
use Rattle.std.specs.Option.{option_and_then}
use Rattle.rst_markup_lines.specs.TextStart.{begins_with, first}
use Rattle.rst_markup_lines.specs.Class.{is_in, run}
use Rattle.rst_markup_lines.specs.Roman.{roman, is_numeral_letter}
use Rattle.rst_markup_lines.specs.Enumerator.{case_of, arabic_at, letters_at, letters_by, as_numeral, written_at, before_one, enumerator_of, is_no_ordinal, begins_no_enumerator}
use Rattle.rst_markup_lines.specs.declared.class.Class.TheVariants.{Digit, Letter}
use Rattle.rst_markup_lines.specs.declared.enumerator.Written.{Written}
use Rattle.rst_markup_lines.proofs.Runs.{run_cons}
use Rattle.rst_markup_lines.proofs.NumeralLetters.{other_letter}

-- an ordinal, if there is one, has a certain number of characters
abbrev has_len : ℕ → Option Written → Type 0
has_len n None = Unit {0}
has_len n (Some w) = w.len ≡ n

numeral_len : (c n : ℕ) (o : Option ℕ) → has_len n (option_and_then (as_numeral (case_of c) n) o)
numeral_len c n None = tt
numeral_len c n (Some v) = refl

letters_by_len : (c n : ℕ) (t : List ℕ) → has_len n (letters_by c n t)
letters_by_len c n t = by (n == 0) (n == 1) refl refl
  where
    by : (a b : Bool) → (n == 0) ≡ a → (n == 1) ≡ b → has_len n (letters_by c n t)
    by true b e f = rw e tt
    by false true e f = rw (e, f) refl
    by false false e f = rw (e, f) (numeral_len c n (roman (case_of c) (take n t)))

letters_len : (t : List ℕ) → has_len (run Letter t) (letters_at t)
unfolding letters_at
letters_len [] = tt
letters_len (c ∷ cs) = letters_by_len c (run Letter (c ∷ cs)) (c ∷ cs)

unclosed : (t : List ℕ) (n : ℕ) (o : Option Written) → has_len n o → begins_with 41 (drop n t) ≡ false → begins_with 46 (drop n t) ≡ false
    → option_and_then (before_one t) o ≡ None
unclosed t n None h p q = refl
unclosed t n (Some w) h p q = rw (h, p, q) refl

written_letters : (t : List ℕ) → begins_with 35 t ≡ false → run Digit t ≡ 0 → written_at t ≡ letters_at t
unfolding written_at arabic_at
written_letters t h d = rw (h, d) refl

-- no ordinal but one of letters can be there
letters_left : (t : List ℕ) → begins_with 40 t ≡ false → begins_with 35 t ≡ false → run Digit t ≡ 0 → option_and_then (before_one t) (letters_at t) ≡ None → enumerator_of t ≡ None
unfolding enumerator_of
letters_left t p h d e = rw (p, written_letters t h d) e

no_digits : (c : ℕ) (cs : List ℕ) → is_ascii_digit c ≡ false → run Digit (c ∷ cs) ≡ 0
unfolding is_in
no_digits c cs h = run_cons Digit c cs ∙ ap (λ b. cond b (suc (run Digit cs)) 0) h

no_letters : (c : ℕ) (cs : List ℕ) → is_ascii_alphabetic c ≡ false → run Letter (c ∷ cs) ≡ 0
unfolding is_in
no_letters c cs h = run_cons Letter c cs ∙ ap (λ b. cond b (suc (run Letter cs)) 0) h

one_letter : (c : ℕ) (cs : List ℕ) (n : ℕ) → is_ascii_alphabetic c ≡ true → run Letter cs ≡ n → run Letter (c ∷ cs) ≡ suc n
unfolding is_in
one_letter c cs n h e = run_cons Letter c cs ∙ ap (λ b. cond b (suc (run Letter cs)) 0) h ∙ ap suc e

-- what a letter isn't
letter_digit : (c : ℕ) → is_ascii_alphabetic c ≡ true → is_ascii_digit c ≡ false
letter_digit c h = grind (arith, nat_tests)

pub letter_not : (c d : ℕ) → is_ascii_alphabetic c ≡ true → is_ascii_alphabetic d ≡ false → (c == d) ≡ false
letter_not c d h k = ne_eqb c d (λ same. true≢false (sym h ∙ ap is_ascii_alphabetic same ∙ k))

neither : (a b : Bool) → not (a || b) ≡ true → (a ≡ false) × (b ≡ false)
neither a b h = or_parts a b (not-true (a || b) h)

-- a letter alone, with no end of an enumerator after it
lone_none : (c : ℕ) (cs : List ℕ) → is_ascii_alphabetic c ≡ true → run Letter cs ≡ 0 → begins_with 41 cs ≡ false → begins_with 46 cs ≡ false
    → option_and_then (before_one (c ∷ cs)) (letters_at (c ∷ cs)) ≡ None
lone_none c cs h e p q =
    let one : run Letter (c ∷ cs) ≡ 1 = one_letter c cs 0 h e in
    unclosed (c ∷ cs) (run Letter (c ∷ cs)) (letters_at (c ∷ cs)) (letters_len (c ∷ cs)) (ap (λ n. begins_with 41 (drop n (c ∷ cs))) one ∙ p) (ap (λ n. begins_with 46 (drop n (c ∷ cs))) one ∙ q)

no_numeral : (c n : ℕ) (t : List ℕ) → roman (case_of c) (take (suc (suc n)) t) ≡ None → letters_by c (suc (suc n)) t ≡ None
no_numeral c n t h =
    let some : (suc (suc n) == 0) ≡ false = ne_eqb (suc (suc n)) 0 (λ e. absurd (omega arith)) in
    let more : (suc (suc n) == 1) ≡ false = ne_eqb (suc (suc n)) 1 (λ e. absurd (omega arith)) in
    rw (some, more, h) refl

-- two letters that aren't both letters of numerals
pair_none : (c d : ℕ) (ds : List ℕ) → is_ascii_alphabetic c ≡ true → is_ascii_alphabetic d ≡ true → not (is_numeral_letter c && is_numeral_letter d) ≡ true
    → letters_at (c ∷ d ∷ ds) ≡ None
unfolding letters_at
pair_none c d ds h k other =
    let n : ℕ = run Letter ds in
    let two : run Letter (c ∷ d ∷ ds) ≡ suc (suc n) = one_letter c (d ∷ ds) (suc n) h (one_letter d ds n k refl) in
    ap (λ m. letters_by c m (c ∷ d ∷ ds)) two ∙ no_numeral c n (c ∷ d ∷ ds) (other_letter (case_of c) (c ∷ d ∷ take n ds) (by (is_numeral_letter c) (is_numeral_letter d) (list_all is_numeral_letter (take n ds)) other))
  where
    by : (a b x : Bool) → not (a && b) ≡ true → (a && (b && x)) ≡ false
    by true true x h = cc
    by true false x h = refl
    by false b x h = refl

after_letter_none : (c : ℕ) (cs : List ℕ) → is_ascii_alphabetic c ≡ true → is_no_ordinal c (first cs) ≡ true → option_and_then (before_one (c ∷ cs)) (letters_at (c ∷ cs)) ≡ None
unfolding run
after_letter_none c [] h e = lone_none c [] h refl refl refl
after_letter_none c (d ∷ ds) h e = by (is_ascii_alphabetic d) refl e
  where
    by : (b : Bool) → is_ascii_alphabetic d ≡ b → cond b (not (is_numeral_letter c && is_numeral_letter d)) (not (d == 41 || d == 46)) ≡ true
        → option_and_then (before_one (c ∷ d ∷ ds)) (letters_at (c ∷ d ∷ ds)) ≡ None
    by true k e = ap (option_and_then (before_one (c ∷ d ∷ ds))) (pair_none c d ds h k e)
    by false k e = let ends = neither (d == 41) (d == 46) e in lone_none c (d ∷ ds) h (no_letters d ds k) ends.0 ends.1

no_word : (c : ℕ) (cs : List ℕ) → is_ascii_alphabetic c ≡ false → letters_at (c ∷ cs) ≡ None
unfolding letters_at
no_word c cs h = ap (λ n. letters_by c n (c ∷ cs)) (no_letters c cs h)

-- a text whose front is no enumerator's begins with none
no_enumerator : (c : ℕ) (cs : List ℕ) → begins_no_enumerator c (first cs) ≡ true → enumerator_of (c ∷ cs) ≡ None
no_enumerator c cs e = by (is_ascii_alphabetic c) refl e
  where
    by : (b : Bool) → is_ascii_alphabetic c ≡ b → cond b (is_no_ordinal c (first cs)) (not (is_ascii_digit c || (c == 35 || c == 40))) ≡ true → enumerator_of (c ∷ cs) ≡ None
    by true h e = letters_left (c ∷ cs) (letter_not c 40 h refl) (letter_not c 35 h refl) (no_digits c cs (letter_digit c h)) (after_letter_none c cs h e)
    by false h e =
        let parts = neither (is_ascii_digit c) (c == 35 || c == 40) e in
        let marks = neither (c == 35) (c == 40) (ap not parts.1) in
        letters_left (c ∷ cs) marks.1 marks.0 (no_digits c cs parts.0)
        (ap (option_and_then (before_one (c ∷ cs))) (no_word c cs h))

-- the same, by the first two characters of a text
pub word_none : (t : List ℕ) (c : ℕ) → Some c ≡ first t → begins_no_enumerator c (first (drop 1 t)) ≡ true → None ≡ enumerator_of t
word_none [] c e h = cc
word_none (d ∷ ds) c e h = let same : c ≡ d = cc in sym (no_enumerator d ds (ap (λ x. begins_no_enumerator x (first ds)) (sym same) ∙ h))

pub empty_none : (t : List ℕ) → None ≡ first t → None ≡ enumerator_of t
unfolding enumerator_of written_at arabic_at letters_at run
empty_none [] e = refl
empty_none (c ∷ cs) e = cc

-- one number is one more than another
pub more_by_one : (a b : ℕ) → (nat_lt 0 b && b - 1 == a) ≡ (b == suc a)
more_by_one a zero = sym (ne_eqb 0 (suc a) (λ e. absurd (omega (arith, e))))
more_by_one a (suc n) =
    let some : nat_lt 0 (suc n) ≡ true = lt-ltb 0 (suc n) (omega arith) in
    let less : (suc n - 1 == a) ≡ (n == a) = rw sub-one refl in
    rw (some, less) (sym (eqb-suc-suc n a))
