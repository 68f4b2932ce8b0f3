-- A simple name is read from its front.
use Rattle.std.proofs.Common.{◌≡◌, ⊎_elim, inl, inr, ℕ, zero, suc, ◌+◌, ◌-◌, ◌<◌, ◌≤◌, Bool, true, false, not, ltb, ◌&&◌, ◌||◌, get_or, List, [], ◌∷◌, length, length-drop, drop, None, Some, arith, refl, sym, ap, ◌∙◌, subst}
use Rattle.std.proofs.lemmas.Bool.{and_parts, or_parts, lt-ltb, le-ltb}
use Rattle.std.proofs.lemmas.List.{drop-drop}
use Rattle.std.proofs.lemmas.Bool.Decides.{nat_tests}
use Rattle.rst_text.specs.Characters.{is_alphanumeric, is_alnum_at}
use Rattle.rst_text.proofs.PlacesLemmas.{cases_bool, lt_eq_gt}
use Rattle.rst_text.specs.SimpleNames.{is_joint, is_name_at, name_stop, simple_name}
use Rattle.rst_text.proofs.SimpleNameLemmas.{name_stop-is}
use Rattle.rst_markup_lines.specs.TextStart.{first}

-- a letter or a number, or a joint with one of these after it
abbrev pub goes_on : ℕ → List ℕ → Bool
goes_on c cs = is_alphanumeric c || (is_joint c && is_alnum_at cs 0)

-- the first character of what follows n characters
pub at-first : (t cs : List ℕ) (c n : ℕ) → drop n t ≡ cs → first cs ≡ Some c → get_or t n 0 ≡ c
at-first t [] c n e h = cc
at-first [] (d ∷ ds) c zero e h = cc
at-first [] (d ∷ ds) c (suc n) e h = cc
at-first (x ∷ xs) (d ∷ ds) c zero e h = cc
at-first (x ∷ xs) (d ∷ ds) c (suc n) e h = at-first xs (d ∷ ds) c n e h

-- where a character follows n characters, these are fewer than all
pub inside : (t cs : List ℕ) (c n : ℕ) → drop n t ≡ cs → first cs ≡ Some c → n < length t
inside t [] c n e h = cc
inside t (d ∷ ds) c n e h = let following : length t - n ≡ suc (length ds) = sym (length-drop n t) ∙ ap length e in omega arith

alnum-here : (t cs : List ℕ) (c n : ℕ) → drop n t ≡ cs → first cs ≡ Some c → is_alnum_at t n ≡ is_alphanumeric c
alnum-here t cs c n e h = rw (lt-ltb n (length t) (inside t cs c n e h), at-first t cs c n e h) refl

-- what follows n characters begins with a letter or a number where one is at the place
alnum-drop : (t cs : List ℕ) (n : ℕ) → drop n t ≡ cs → is_alnum_at cs 0 ≡ is_alnum_at t n
alnum-drop t [] n e = let following : length t - n ≡ 0 = sym (length-drop n t) ∙ ap length e in rw (le-ltb n (length t) (omega arith)) refl
alnum-drop t (d ∷ ds) n e = alnum-here (d ∷ ds) (d ∷ ds) d 0 refl refl ∙ sym (alnum-here t (d ∷ ds) d n e refl)

alnum-after : (t cs : List ℕ) (n : ℕ) → drop n t ≡ cs → is_alnum_at (drop 1 cs) 0 ≡ is_alnum_at t (n + 1)
alnum-after t cs n e = alnum-drop t (drop 1 cs) (n + 1) (sym (drop-drop 1 n t) ∙ ap (drop 1) e)

-- a place of a simple name that holds no letter or number has one after it
after_joint : (t : List ℕ) (m : ℕ) → is_name_at t m ≡ true → is_alnum_at t m ≡ false → is_alnum_at t (m + 1) ≡ true
unfolding is_name_at
after_joint t m h none =
    let joint = and_parts (is_joint (get_or t m 0)) (ltb 0 m && (is_alnum_at t (m - 1) && is_alnum_at t (m + 1))) (rw none at h) in
    (and_parts (is_alnum_at t (m - 1)) (is_alnum_at t (m + 1)) (and_parts (ltb 0 m) (is_alnum_at t (m - 1) && is_alnum_at t (m + 1)) joint.1).1).1

name-alnum : (t : List ℕ) (n : ℕ) → is_alnum_at t n ≡ true → is_name_at t n ≡ true
unfolding is_name_at
name-alnum t n h = rw h refl

name-joint : (t : List ℕ) (m : ℕ) → is_joint (get_or t (suc m) 0) ≡ true → is_alnum_at t m ≡ true → is_alnum_at t (suc m + 1) ≡ true → is_name_at t (suc m) ≡ true
unfolding is_name_at
name-joint t m j before following =
    let one : suc m - 1 ≡ m = omega arith in
    let alnum_before : is_alnum_at t (suc m - 1) ≡ true = ap (is_alnum_at t) one ∙ before in
    rw (j, alnum_before, following) (grind (arith, nat_tests))

no-name : (t : List ℕ) (n : ℕ) → is_alnum_at t n ≡ false → (is_joint (get_or t n 0) && is_alnum_at t (n + 1)) ≡ false → is_name_at t n ≡ false
unfolding is_name_at
no-name t n none h = rw none (grind (arith, nat_tests))

-- The character reached goes on with the name,
here : (t cs : List ℕ) (c n : ℕ) → drop n t ≡ cs → first cs ≡ Some c → is_alnum_at t 0 ≡ true → ((k : ℕ) → k < n → is_name_at t k ≡ true) → goes_on c (drop 1 cs) ≡ true → is_name_at t n ≡ true
here t cs c n e f begun names h = elim (cases_bool (is_alphanumeric c)) [
  | inl letter ↦ name-alnum t n (alnum-here t cs c n e f ∙ letter)
  | inr none ↦
      (let parts = and_parts (is_joint c) (is_alnum_at (drop 1 cs) 0) (rw none at h) in
      let following : is_alnum_at t (n + 1) ≡ true = sym (alnum-after t cs n e) ∙ parts.1 in
      let joint : is_joint (get_or t n 0) ≡ true = ap is_joint (at-first t cs c n e f) ∙ parts.0 in
      by n (alnum-here t cs c n e f ∙ none) joint following names)
]
  where
    by : (n : ℕ) → is_alnum_at t n ≡ false → is_joint (get_or t n 0) ≡ true → is_alnum_at t (n + 1) ≡ true → ((k : ℕ) → k < n → is_name_at t k ≡ true) → is_name_at t n ≡ true
    by zero none joint following names = cc
    by (suc m) none joint following names = ⊎_elim
        (λ yes. name-joint t m joint yes following)
        (λ other.
        let next : is_alnum_at t (m + 1) ≡ true = after_joint t m (names m (omega arith)) other in
        let same : m + 1 ≡ suc m = omega arith in
        let both : true ≡ false = sym next ∙ ap (is_alnum_at t) same ∙ none in cc)
        (cases_bool (is_alnum_at t m))

pub names-more : (t cs : List ℕ) (c n : ℕ) → drop n t ≡ cs → first cs ≡ Some c → is_alnum_at t 0 ≡ true → ((k : ℕ) → k < n → is_name_at t k ≡ true) → goes_on c (drop 1 cs) ≡ true
    → (k : ℕ) → k < n + 1 → is_name_at t k ≡ true
names-more t cs c n e f begun names h = λ k below. ⊎_elim
    (λ less. names k less)
    (λ rest. ⊎_elim (λ same. subst (λ k. is_name_at t k ≡ true) (sym same) (here t cs c n e f begun names h)) (λ more. absurd (omega arith)) rest)
    (lt_eq_gt k n)

-- or ends it,
pub name-stops : (t cs : List ℕ) (c n : ℕ) → drop n t ≡ cs → first cs ≡ Some c → is_alnum_at t 0 ≡ true → ((k : ℕ) → k < n → is_name_at t k ≡ true) → goes_on c (drop 1 cs) ≡ false
    → n ≡ simple_name t
unfolding simple_name
name-stops t cs c n e f begun names h =
    let parts = or_parts (is_alphanumeric c) (is_joint c && is_alnum_at (drop 1 cs) 0) h in
    let joint : (is_joint (get_or t n 0) && is_alnum_at t (n + 1)) ≡ false = ap (λ d. is_joint d && is_alnum_at t (n + 1)) (at-first t cs c n e f) ∙ ap (λ b. is_joint c && b) (sym (alnum-after t cs n e)) ∙ parts.1 in
    let stop : is_name_at t n ≡ false = no-name t n (alnum-here t cs c n e f ∙ parts.0) joint in
    let found : Some n ≡ name_stop t 0 = name_stop-is t 0 (Some n) begun (omega arith, inside t cs c n e f, ap not stop, λ k above below. ap not (names k below)) in
    rw (begun, ← found) refl

-- or there is none.
pub name-ends : (t cs : List ℕ) (n : ℕ) → drop n t ≡ cs → first cs ≡ None → n ≤ length t → is_alnum_at t 0 ≡ true → ((k : ℕ) → k < n → is_name_at t k ≡ true) → n ≡ simple_name t
unfolding simple_name
name-ends t (d ∷ ds) n e f within begun names = cc
name-ends t [] n e f within begun names =
    let rest : length t - n ≡ 0 = sym (length-drop n t) ∙ ap length e in
    let all : n ≡ length t = omega arith in
    let found : None ≡ name_stop t 0 = name_stop-is t 0 None begun (λ k above below. ap not (names k (omega arith))) in
    rw (begun, ← found) all

pub name-none : (t : List ℕ) → is_alnum_at t 0 ≡ false → 0 ≡ simple_name t
unfolding simple_name
name-none t h = rw h refl
