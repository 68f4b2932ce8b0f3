-- Lists that are read an item at a time.
use Rattle.std.proofs.Common.{◌≡◌, ℕ, zero, suc, ◌+◌, ◌-◌, ◌<◌, ◌≤◌, Bool, true, false, cond, List, [], ◌∷◌, ◌++◌, get_or, length, drop, map, filter, refl, sym, ap, ◌∙◌, arith, append_assoc, add-one, Option, Some, None}
use Rattle.std.proofs.lemmas.Bool.{and_parts}
use Rattle.std.proofs.lemmas.List.{drop_more}
use Rattle.rst_text.specs.Places.{first_from}
use Rattle.rst_text.proofs.PlacesLemmas.{first_from-is}
use Rattle.std.specs.Option.{MatchOption}
use Rattle.std.specs.List.{list_all, range_with_len}
use Rattle.rst_markup_tables.specs.Counts.{below}

-- what is left of a list whose item at place i was read
pub read_more : {X : Type 0} (xs : List X) (i : ℕ) (x : X) → i < length xs → x ≡ get_or xs i x → drop i xs ≡ x ∷ drop (i + 1) xs
read_more xs i x below is = drop_more xs i x below ∙ ap (λ y. y ∷ drop (i + 1) xs) (sym is)

-- where all pass a test, none is left out
pub filter-all : {X : Type 0} (p : X → Bool) (xs : List X) → list_all p xs ≡ true → filter p xs ≡ xs
filter-all p [] h = refl
filter-all p (x ∷ xs) h = let parts = and_parts (p x) (list_all p xs) h in rw parts.0 (ap (λ l. x ∷ l) (filter-all p xs parts.1))

-- ---- numbers that pass

pub left_more : (k high : ℕ) → k < high → high - k ≡ suc (high - (k + 1))
left_more k high h = omega arith

-- what `find` gives, stated for the numbers from `low` up to `high`
pub first_from-found : (p : ℕ → Bool) (low high : ℕ) (r : Option ℕ)
    → MatchOption r ((k : ℕ) → low ≤ k → k < high → p k ≡ false) (λ i. (low ≤ i) × (i < high) × (p i ≡ true) × ((k : ℕ) → low ≤ k → k < i → p k ≡ false)) → r ≡ first_from p low (high - low)
first_from-found p low high None h = first_from-is p low high None h
first_from-found p low high (Some i) h = first_from-is p low high (Some i) h

pub all_from-take : (p : ℕ → Bool) (k high : ℕ) → k < high → p k ≡ true → filter p (range_with_len k (high - k)) ≡ k ∷ filter p (range_with_len (k + 1) (high - (k + 1)))
all_from-take p k high h e = ap (λ n. filter p (range_with_len k n)) (left_more k high h) ∙ rw e refl

pub all_from-more : (p : ℕ → Bool) (k high : ℕ) → k < high → p k ≡ false → filter p (range_with_len k (high - k)) ≡ filter p (range_with_len (k + 1) (high - (k + 1)))
all_from-more p k high h e = ap (λ n. filter p (range_with_len k n)) (left_more k high h) ∙ rw e refl

pub each_from-more : {X : Type 0} (f : ℕ → X) (k high : ℕ) → k < high → map f (range_with_len k (high - k)) ≡ f k ∷ map f (range_with_len (k + 1) (high - (k + 1)))
each_from-more f k high h = ap (λ n. map f (range_with_len k n)) (left_more k high h)

pub below_more : (p : ℕ → Bool) (k : ℕ) → below p (k + 1) ≡ below p k + cond (p k) 1 0
below_more p k = rw add-one refl

-- tests that agree on the numbers that are looked at
pub all_from-same : (p q : ℕ → Bool) (low n : ℕ) → ((k : ℕ) → low ≤ k → k < low + n → p k ≡ q k) → filter p (range_with_len low n) ≡ filter q (range_with_len low n)
all_from-same p q low zero same = refl
all_from-same p q low (suc n) same = rw (same low (omega arith) (omega arith), all_from-same p q (low + 1) n (λ k above under. same k (omega arith) (omega arith))) refl

pub below_same : (p q : ℕ → Bool) (n : ℕ) → ((k : ℕ) → k < n → p k ≡ q k) → below p n ≡ below q n
below_same p q zero same = refl
below_same p q (suc n) same = rw (below_same p q n (λ k under. same k (omega arith)), same n (omega arith)) refl

-- pushed onto what precedes
pub onto : {X : Type 0} (prefix rest new all : List X) (x : X) → new ≡ prefix ++ x ∷ [] → prefix ++ (x ∷ rest) ≡ all → new ++ rest ≡ all
onto prefix rest new all x is e = ap (λ l. l ++ rest) is ∙ append_assoc prefix (x ∷ []) rest ∙ e
