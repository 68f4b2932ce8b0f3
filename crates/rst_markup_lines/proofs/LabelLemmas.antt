-- A label before a closing bracket is determined by how many characters of each kind it begins with.
use Rattle.std.proofs.Common.{◌≡◌, ⊎_elim, ℕ, zero, suc, ◌+◌, ◌-◌, ◌<◌, ◌≤◌, Bool, true, false, not, ◌&&◌, ◌||◌, ◌==◌, cond, ltb, get_or, unwrap_or, true≢false, List, [], ◌∷◌, length, take, drop, Option, Some, None, if◌then◌else◌, refl, sym, ap, ◌∙◌, arith}
use Rattle.std.specs.List.{list_all}
use Rattle.std.proofs.Math.Dec.{eqb-suc-suc}
use Rattle.std.proofs.lemmas.Bool.{eqb-true, eq-eqb, ne_eqb, lt-ltb, le-ltb, cases_lt, not-true, not-false, true_from_ne_false}
use Rattle.std.proofs.Math.Bool.{and-false}
use Rattle.std.proofs.lemmas.List.{get_or-take, length-take-le}
use Rattle.rst_markup_lines.proofs.Runs.{run_cons}
use Rattle.rst_text.specs.Block.{is_blank}
use Rattle.rst_text.specs.Characters.{is_alphanumeric, is_alnum_at}
use Rattle.rst_text.specs.Places.{first_from, IsFirst}
use Rattle.rst_text.proofs.CharacterLemmas.{is_alphanumeric-ascii}
use Rattle.rst_text.proofs.PlacesLemmas.{first_from-IsFirst}
use Rattle.rst_text.specs.SimpleNames.{is_joint, is_name_at, is_simple_name, name_stop, simple_name}
use Rattle.rst_text.proofs.SimpleNameLemmas.{not_simple, simple-where, name_stop-is}
use Rattle.rst_markup_lines.specs.TextStart.{begins_with, first}
use Rattle.rst_markup_lines.specs.Class.{is_in, run}
use Rattle.rst_markup_lines.specs.ExplicitMarks.{label_kind}
use Rattle.rst_markup_lines.specs.declared.class.Class.TheVariants.{Digit}
use Rattle.rst_markup_lines.specs.declared.explicit_marks.LabelKind.{LabelKind}
use Rattle.rst_markup_lines.specs.declared.explicit_marks.LabelKind.TheVariants.{Footnote, Citation}
use Rattle.rst_markup_lines.proofs.SimpleNames.{at-first, inside}

-- a closing bracket follows n characters
abbrev Closed : ℕ → List ℕ → Type 0
Closed n t = begins_with 93 (drop n t) ≡ true

-- ---- no name goes on over the bracket

after_label : (n : ℕ) (t : List ℕ) → Closed n t → first (drop n t) ≡ Some 93
after_label n t h = by (drop n t) h
  where
    by : (cs : List ℕ) → begins_with 93 cs ≡ true → first cs ≡ Some 93
    by [] h = cc
    by (c ∷ cs) h = ap Some (eqb-true c 93 h)

bracket_at : (n : ℕ) (t : List ℕ) → Closed n t → get_or t n 0 ≡ 93
bracket_at n t h = at-first t (drop n t) 93 n refl (after_label n t h)

room : (n : ℕ) (t : List ℕ) → Closed n t → n < length t
room n t h = inside t (drop n t) 93 n refl (after_label n t h)

size : (n : ℕ) (t : List ℕ) → Closed n t → length (take n t) ≡ n
size n t h = let less = room n t h in length-take-le n t (omega arith)

no_letter : is_alphanumeric 93 ≡ false
no_letter = sym (is_alphanumeric-ascii 93 (omega arith))

no_alnum : (n : ℕ) (t : List ℕ) → Closed n t → is_alnum_at t n ≡ false
no_alnum n t h = rw (lt-ltb n (length t) (room n t h), bracket_at n t h) no_letter

alnum_in : (n k : ℕ) (t : List ℕ) → Closed n t → k ≤ n → is_alnum_at (take n t) k ≡ is_alnum_at t k
alnum_in n k t h le = ⊎_elim
    (λ less.
    let all = room n t h in
    let here : ltb k (length (take n t)) ≡ true = rw (size n t h) (lt-ltb k n less) in
    let there : ltb k (length t) ≡ true = lt-ltb k (length t) (omega arith) in
    rw (here, there, get_or-take n t k 0 less) refl)
    (λ past.
    let same : k ≡ n = omega arith in
    let out : ltb k (length (take n t)) ≡ false = rw (size n t h) (le-ltb k n past) in
    rw out (sym (ap (is_alnum_at t) same ∙ no_alnum n t h)))
    (cases_lt k n)

name_in : (n k : ℕ) (t : List ℕ) → Closed n t → k < n → is_name_at (take n t) k ≡ is_name_at t k
unfolding is_name_at
name_in n k t h less = rw (alnum_in n k t h (omega arith), alnum_in n (k - 1) t h (omega arith), alnum_in n (k + 1) t h (omega arith), get_or-take n t k 0 less) refl

no_name : (n : ℕ) (t : List ℕ) → Closed n t → is_name_at t n ≡ false
unfolding is_name_at is_joint
no_name n t h = rw (no_alnum n t h, bracket_at n t h) refl

begun : (t : List ℕ) → is_name_at t 0 ≡ true → is_alnum_at t 0 ≡ true
unfolding is_name_at
begun t h = true_from_ne_false (is_alnum_at t 0) (λ none. true≢false (sym (rw none at h) ∙ and-false (is_joint (get_or t 0 0))))

-- ---- the simple name at the front has n characters just where the first n are one

whole_name : (n : ℕ) (t : List ℕ) → Closed (suc n) t → ((k : ℕ) → k < suc n → is_name_at t k ≡ true) → simple_name t ≡ suc n
unfolding simple_name
whole_name n t h names =
    let alnum : is_alnum_at t 0 ≡ true = begun t (names 0 (omega arith)) in
    let found : Some (suc n) ≡ name_stop t 0 = name_stop-is t 0 (Some (suc n)) alnum (omega arith, room (suc n) t h, ap not (no_name (suc n) t h), λ k above below. ap not (names k below)) in
    rw (alnum, ← found) refl

-- where a place before the bracket is none of a simple name, the name is another
part_name : (n k : ℕ) (t : List ℕ) → k < suc n → suc n < length t → is_name_at t k ≡ false → (simple_name t == suc n) ≡ false
unfolding simple_name name_stop
part_name n k t less within none = by (is_alnum_at t 0) (first_from (λ j. not (is_name_at t j)) 0 (length t - 0)) (first_from-IsFirst (λ j. not (is_name_at t j)) 0 (length t - 0))
  where
    no : not (is_name_at t k) ≡ false → ⊥
    no e = true≢false (sym (ap not none) ∙ e)

    by : (a : Bool) (r : Option ℕ) → IsFirst (λ j. not (is_name_at t j)) 0 (0 + (length t - 0)) r → (cond a (unwrap_or (cond a r None) (length t)) 0 == suc n) ≡ false
    by false r f = ne_eqb 0 (suc n) (λ e. absurd (omega (arith, e)))
    by true (Some e) f = ne_eqb e (suc n) (λ same. no (f.3 k (omega arith) (omega (arith, same))))
    by true None f = absurd (no (f k (omega arith) (omega arith)))

name_take : (n : ℕ) (t : List ℕ) → Closed (suc n) t → is_simple_name (take (suc n) t) ≡ (simple_name t == suc n)
name_take n t h = by (first_from (λ k. not (is_name_at t k)) 0 (suc n)) (first_from-IsFirst (λ k. not (is_name_at t k)) 0 (suc n))
  where
    len : length (take (suc n) t) ≡ suc n
    len = size (suc n) t h

    by : (r : Option ℕ) → IsFirst (λ k. not (is_name_at t k)) 0 (0 + suc n) r → is_simple_name (take (suc n) t) ≡ (simple_name t == suc n)
    by (Some k) f =
        let none : is_name_at t k ≡ false = not-true (is_name_at t k) f.2 in
        let less : k < suc n = omega (arith, f.1) in
        not_simple (take (suc n) t) k (omega (arith, len)) (name_in (suc n) k t h less ∙ none) ∙ sym (part_name n k t less (room (suc n) t h) none)
    by None f =
        let names : (k : ℕ) → k < suc n → is_name_at t k ≡ true = λ k less. not-false (is_name_at t k) (f k (omega arith) (omega (arith, less))) in
        let some : ltb 0 (length (take (suc n) t)) ≡ true = rw len (lt-ltb 0 (suc n) (omega arith)) in
        let all : (simple_name t == suc n) ≡ true = eq-eqb (simple_name t) (suc n) (whole_name n t h names) in
        sym (simple-where (take (suc n) t) (suc n) (omega (arith, len)) (λ k less. name_in (suc n) k t h less ∙ names k less)) ∙ some ∙ sym all

-- ---- the kind

blank_take : (n : ℕ) (t : List ℕ) → Closed n t → is_blank (take n t) ≡ (n == 0)
blank_take zero t h = refl
blank_take (suc n) [] h = cc
blank_take (suc n) (c ∷ cs) h = sym (ne_eqb (suc n) 0 (λ e. absurd (omega (arith, e))))

digits_take : (n : ℕ) (t : List ℕ) → Closed n t → list_all (is_in Digit) (take n t) ≡ (run Digit t == n)
unfolding run is_in
digits_take zero [] h = cc
digits_take zero (c ∷ cs) h = let bracket : c ≡ 93 = eqb-true c 93 h in rw bracket refl
digits_take (suc n) [] h = cc
digits_take (suc n) (c ∷ cs) h = by (is_in Digit c) (digits_take n cs h) ∙ sym (ap (λ m. m == suc n) (run_cons Digit c cs))
  where
    by : (b : Bool) → list_all (is_in Digit) (take n cs) ≡ (run Digit cs == n) → (b && list_all (is_in Digit) (take n cs)) ≡ (cond b (suc (run Digit cs)) 0 == suc n)
    by true h = h ∙ sym (eqb-suc-suc (run Digit cs) n)
    by false h = sym (ne_eqb 0 (suc n) (λ e. absurd (omega (arith, e))))

-- nothing or a simple name after a sign
after_sign : (n : ℕ) (t : List ℕ) → Closed n t → (is_blank (take n t) || is_simple_name (take n t)) ≡ (simple_name t == n)
unfolding simple_name
after_sign zero t h = rw (no_alnum 0 t h) refl
after_sign (suc n) [] h = cc
after_sign (suc n) (c ∷ cs) h = name_take n (c ∷ cs) h

-- what the first n characters label, by how many of each kind a text begins with
abbrev pub kind_by_lengths : ℕ → List ℕ → Option LabelKind
kind_by_lengths n t =
    if n == 0 then None
    else if run Digit t == n then Some Footnote
    else if begins_with 42 t && n == 1 then Some Footnote
    else if begins_with 35 t && simple_name (drop 1 t) == n - 1 then Some Footnote
    else if simple_name t == n then Some Citation
    else None

pub kind_before : (n : ℕ) (t : List ℕ) → begins_with 93 (drop n t) ≡ true → label_kind (take n t) ≡ kind_by_lengths n t
unfolding label_kind
kind_before zero t h = refl
kind_before (suc n) [] h = cc
kind_before (suc n) (c ∷ cs) h =
    let digits : list_all (is_in Digit) (c ∷ take n cs) ≡ (run Digit (c ∷ cs) == suc n) = digits_take (suc n) (c ∷ cs) h in
    let less : suc n - 1 ≡ n = omega arith in
    let sign : (is_blank (take n cs) || is_simple_name (take n cs)) ≡ (simple_name cs == suc n - 1) = after_sign n cs h ∙ ap (λ k. simple_name cs == k) (sym less) in
    let star : is_blank (take n cs) ≡ (suc n == 1) = blank_take n cs h ∙ sym (eqb-suc-suc n 0) in
    let name : is_simple_name (c ∷ take n cs) ≡ (simple_name (c ∷ cs) == suc n) = name_take n (c ∷ cs) h in
    let some : (suc n == 0) ≡ false = ne_eqb (suc n) 0 (λ e. absurd (omega (arith, e))) in
    rw (digits, sign, star, name, some) refl
