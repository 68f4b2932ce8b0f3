-- Laws on the least and the greatest place that passes a test.
use Rattle.std.proofs.Common.{◌≡◌, ◌⊎◌, inl, inr, ⊎_elim, ℕ, zero, suc, ◌+◌, ◌-◌, ◌<◌, ◌≤◌, Bool, true, false, Option, Some, None, refl, sym, ap, ◌∙◌, subst, arith}
use Rattle.std.proofs.Math.Nat.{eq-or-lt_of_le}
use Rattle.std.proofs.lemmas.Bool.{and_parts, cases_lt, cases_Bool, true≢false}
use Rattle.rst_text.specs.Places.{first_from, last_from, all_from, NoneFrom, IsFirst, IsLast}

pub cases_bool : (b : Bool) → (b ≡ true) ⊎ (b ≡ false)
cases_bool b = cases_Bool b

pub lt_eq_gt : (i j : ℕ) → (i < j) ⊎ ((i ≡ j) ⊎ (j < i))
lt_eq_gt i j = ⊎_elim inl (λ ge. inr (⊎_elim (λ same. inl (sym same)) (λ more. inr more) (eq-or-lt_of_le ge))) (cases_lt i j)

-- ---- no place passes

pub NoneFrom-nothing : (p : ℕ → Bool) (low high : ℕ) → high ≤ low → NoneFrom p low high
NoneFrom-nothing p low high h = λ k above below. absurd (omega arith)

-- one place more at the end
pub NoneFrom-more : (p : ℕ → Bool) (low high : ℕ) → NoneFrom p low high → (low ≤ high → p high ≡ false) → NoneFrom p low (high + 1)
NoneFrom-more p low high h here = λ k above below.
    ⊎_elim (λ less. h k above less) (λ rest. ⊎_elim (λ same. subst (λ k. p k ≡ false) (sym same) (here (omega arith))) (λ more. absurd (omega arith)) rest) (lt_eq_gt k high)

-- one place more at the front
pub NoneFrom-before : (p : ℕ → Bool) (low high : ℕ) → p low ≡ false → NoneFrom p (low + 1) high → NoneFrom p low high
NoneFrom-before p low high here h = λ k above below.
    ⊎_elim (λ less. h k (omega arith) below) (λ rest. ⊎_elim (λ same. subst (λ k. p k ≡ false) same here) (λ more. absurd (omega arith)) rest) (lt_eq_gt low k)

pub NoneFrom-join : (p : ℕ → Bool) (low mid high : ℕ) → NoneFrom p low mid → NoneFrom p mid high → NoneFrom p low high
NoneFrom-join p low mid high h g = λ k above below. ⊎_elim (λ less. h k above less) (λ past. g k past below) (cases_lt k mid)

pub NoneFrom-within : (p : ℕ → Bool) (low high a b : ℕ) → low ≤ a → b ≤ high → NoneFrom p low high → NoneFrom p a b
NoneFrom-within p low high a b above below h = λ k from to. h k (omega arith) (omega arith)

-- ---- the least place

pub IsFirst-unique : (p : ℕ → Bool) (low high : ℕ) (r s : Option ℕ) → IsFirst p low high r → IsFirst p low high s → r ≡ s
IsFirst-unique p low high (Some i) (Some j) a b = ⊎_elim
    (λ less. absurd (true≢false (sym a.2 ∙ b.3 i a.0 less)))
    (λ rest. ⊎_elim (λ same. ap Some same) (λ more. absurd (true≢false (sym b.2 ∙ a.3 j b.0 more))) rest)
    (lt_eq_gt i j)
IsFirst-unique p low high (Some i) None a b = absurd (true≢false (sym a.2 ∙ b i a.0 a.1))
IsFirst-unique p low high None (Some j) a b = absurd (true≢false (sym b.2 ∙ a j b.0 b.1))
IsFirst-unique p low high None None a b = refl

-- a place before that fails
pub IsFirst-before : (p : ℕ → Bool) (low high : ℕ) (r : Option ℕ) → p low ≡ false → IsFirst p (low + 1) high r → IsFirst p low high r
IsFirst-before p low high (Some i) e h = (omega (arith, h.0), h.1, h.2, NoneFrom-before p low i e h.3)
IsFirst-before p low high None e h = NoneFrom-before p low high e h

pub first_from-IsFirst : (p : ℕ → Bool) (low n : ℕ) → IsFirst p low (low + n) (first_from p low n)
first_from-IsFirst p low zero = NoneFrom-nothing p low (low + 0) (omega arith)
first_from-IsFirst p low (suc n) = ⊎_elim
    (λ yes. rw yes (omega arith, omega arith, yes, NoneFrom-nothing p low low (omega arith)))
    (λ no.
    let e : low + 1 + n ≡ low + suc n = omega arith in
    let rest = subst (λ high. IsFirst p (low + 1) high (first_from p (low + 1) n)) e (first_from-IsFirst p (low + 1) n) in
    rw no (IsFirst-before p low (low + suc n) (first_from p (low + 1) n) no rest))
    (cases_bool (p low))

IsFirst-nothing : (p : ℕ → Bool) (low high : ℕ) (r : Option ℕ) → high ≤ low → IsFirst p low high r → r ≡ None
IsFirst-nothing p low high (Some i) h a = absurd (let x = a.0 in let y = a.1 in omega arith)
IsFirst-nothing p low high None h a = refl

-- The definition gives the least place,
pub first_from-first : (p : ℕ → Bool) (low high : ℕ) → low ≤ high → IsFirst p low high (first_from p low (high - low))
first_from-first p low high h =
    let e : low + (high - low) ≡ high = omega arith in subst (λ n. IsFirst p low n (first_from p low (high - low))) e (first_from-IsFirst p low (high - low))

-- and what a search found to be the least place is what the definition gives.
pub first_from-is : (p : ℕ → Bool) (low high : ℕ) (r : Option ℕ) → IsFirst p low high r → r ≡ first_from p low (high - low)
first_from-is p low high r a = ⊎_elim
    (λ some. IsFirst-unique p low high r (first_from p low (high - low)) a (first_from-first p low high (omega arith)))
    (λ empty. let e : high - low ≡ 0 = omega arith in IsFirst-nothing p low high r empty a ∙ ap (first_from p low) (sym e))
    (cases_lt low high)

-- ---- the greatest place

pub IsLast-unique : (p : ℕ → Bool) (low high : ℕ) (r s : Option ℕ) → IsLast p low high r → IsLast p low high s → r ≡ s
IsLast-unique p low high (Some i) (Some j) a b = ⊎_elim
    (λ less. absurd (true≢false (sym b.2 ∙ a.3 j (omega arith) b.1)))
    (λ rest. ⊎_elim (λ same. ap Some same) (λ more. absurd (true≢false (sym a.2 ∙ b.3 i (omega arith) a.1))) rest)
    (lt_eq_gt i j)
IsLast-unique p low high (Some i) None a b = absurd (true≢false (sym a.2 ∙ b i a.0 a.1))
IsLast-unique p low high None (Some j) a b = absurd (true≢false (sym b.2 ∙ a j b.0 b.1))
IsLast-unique p low high None None a b = refl

-- the place reached passes
pub IsLast-new : (p : ℕ → Bool) (low i : ℕ) → low ≤ i → p i ≡ true → IsLast p low (i + 1) (Some i)
IsLast-new p low i above passes = (above, omega arith, passes, NoneFrom-nothing p (i + 1) (i + 1) (omega arith))

-- the place reached fails
pub IsLast-one : (p : ℕ → Bool) (low i : ℕ) (r : Option ℕ) → p i ≡ false → IsLast p low i r → IsLast p low (i + 1) r
IsLast-one p low i (Some j) fails h = (h.0, omega (arith, h.1), h.2, NoneFrom-more p (j + 1) i h.3 (λ above. fails))
IsLast-one p low i None fails h = NoneFrom-more p low i h (λ above. fails)

-- further places, none of which passes
pub IsLast-kept : (p : ℕ → Bool) (low high top : ℕ) (r : Option ℕ) → ((k : ℕ) → p k ≡ true → k < top) → NoneFrom p high top → IsLast p low high r → IsLast p low top r
IsLast-kept p low high top (Some i) bound none h = (h.0, bound i h.2, h.2, NoneFrom-join p (i + 1) high top h.3 none)
IsLast-kept p low high top None bound none h = NoneFrom-join p low high top h none

pub last_from-IsLast : (p : ℕ → Bool) (low n : ℕ) → IsLast p low (low + n) (last_from p low n)
last_from-IsLast p low zero = NoneFrom-nothing p low (low + 0) (omega arith)
last_from-IsLast p low (suc n) =
    let e : low + n + 1 ≡ low + suc n = omega arith in
    rw (← e) (⊎_elim (λ yes. rw yes (IsLast-new p low (low + n) (omega arith) yes)) (λ no. rw no (IsLast-one p low (low + n) (last_from p low n) no (last_from-IsLast p low n))) (cases_bool (p (low + n))))

IsLast-nothing : (p : ℕ → Bool) (low high : ℕ) (r : Option ℕ) → high ≤ low → IsLast p low high r → r ≡ None
IsLast-nothing p low high (Some i) h a = absurd (let x = a.0 in let y = a.1 in omega arith)
IsLast-nothing p low high None h a = refl

-- The definition gives the greatest place,
pub last_from-last : (p : ℕ → Bool) (low high : ℕ) → low ≤ high → IsLast p low high (last_from p low (high - low))
last_from-last p low high h =
    let e : low + (high - low) ≡ high = omega arith in subst (λ n. IsLast p low n (last_from p low (high - low))) e (last_from-IsLast p low (high - low))

-- and what a search found to be the greatest place is what the definition gives.
pub last_from-is : (p : ℕ → Bool) (low high : ℕ) (r : Option ℕ) → IsLast p low high r → r ≡ last_from p low (high - low)
last_from-is p low high r a = ⊎_elim
    (λ some. IsLast-unique p low high r (last_from p low (high - low)) a (last_from-last p low high (omega arith)))
    (λ empty. let e : high - low ≡ 0 = omega arith in IsLast-nothing p low high r empty a ∙ ap (last_from p low) (sym e))
    (cases_lt low high)

-- ---- each place passes

pub all_from-at : (p : ℕ → Bool) (low n : ℕ) → all_from p low n ≡ true → (k : ℕ) → low ≤ k → k < low + n → p k ≡ true
all_from-at p low zero h k above below = absurd (omega arith)
all_from-at p low (suc n) h k above below = ⊎_elim
    (λ less. all_from-at p low n (and_parts (p (low + n)) (all_from p low n) h).1 k above less)
    (λ rest. ⊎_elim (λ same. subst (λ k. p k ≡ true) (sym same) (and_parts (p (low + n)) (all_from p low n) h).0) (λ more. absurd (omega arith)) rest)
    (lt_eq_gt k (low + n))

pub all_from-all : (p : ℕ → Bool) (low n : ℕ) → ((k : ℕ) → low ≤ k → k < low + n → p k ≡ true) → all_from p low n ≡ true
all_from-all p low zero h = refl
all_from-all p low (suc n) h = rw (h (low + n) (omega arith) (omega arith)) (all_from-all p low n (λ k above below. h k above (omega arith)))

pub all_from-more : (p : ℕ → Bool) (low place : ℕ) → low ≤ place → all_from p low (place - low) ≡ true → p place ≡ true → all_from p low (place + 1 - low) ≡ true
all_from-more p low place above h here =
    let e : place + 1 - low ≡ suc (place - low) = omega arith in
    let at : low + (place - low) ≡ place = omega arith in
    rw (e, at, here) h

pub all_from-stop : (p : ℕ → Bool) (low place j : ℕ) → low ≤ place → place < j → p place ≡ false → all_from p low (j - low) ≡ false
all_from-stop p low place j above less fails = ⊎_elim
    (λ yes. absurd (true≢false (sym (all_from-at p low (j - low) yes place above (omega arith)) ∙ fails)))
    (λ done. done)
    (cases_bool (all_from p low (j - low)))
