-- The rows of tables that are made of lists.
use Rattle.std.proofs.Common.{◌≡◌, ℕ, suc, zero, ◌≤◌, List, [], ◌∷◌, take, drop, length, refl, ap, arith}
use Rattle.std.proofs.lemmas.List.{drop_all}

-- a head of as many rows as there are, or more, has all rows
pub head_alone : {A : Type 0} (n : ℕ) (xs : List A) → length xs ≤ n → take n xs ≡ xs
head_alone zero [] h = refl
head_alone zero (x ∷ xs) h = absurd (omega arith)
head_alone (suc n) [] h = refl
head_alone (suc n) (x ∷ xs) h = ap (λ ys. x ∷ ys) (head_alone n xs (omega arith))

-- and leaves none for the body
pub no_body : {A : Type 0} (n : ℕ) (xs : List A) → length xs ≤ n → drop n xs ≡ []
no_body n xs h = drop_all n xs h
