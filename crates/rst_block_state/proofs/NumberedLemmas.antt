-- What is read one after the other.
use Rattle.std.proofs.Common.{◌≡◌, ℕ, List, [], ◌∷◌, ◌++◌, Result, Ok, Err, refl, sym, ◌∙◌, ap, append_assoc, append-nil}
use Rattle.rst_block_state.specs.Numbered.{Numbered, then_read, ◌>>=◌, just, flat_each, before}

-- two things that are read alike are read alike with each number
pub at_number : {A : Type 0} {r s : Numbered A} (n : ℕ) → r ≡ s → r n ≡ s n
at_number n e = ap (λ read. read n) e

-- what follows is the same, so all is
pub same_after : {A B : Type 0} (r : Result (A × ℕ) ℕ) (f g : A → Numbered B) → ((a : A) (n : ℕ) → f a n ≡ g a n) → then_read f r ≡ then_read g r
same_after (Ok (a, n)) f g h = h a n
same_after (Err line) f g h = refl

-- two things that follow one another follow as one
pub after_after : {A B C : Type 0} (r : Result (A × ℕ) ℕ) (f : A → Numbered B) (g : B → Numbered C) → then_read g (then_read f r) ≡ then_read (λ a. f a >>= g) r
after_after (Ok (a, n)) f g = refl
after_after (Err line) f g = refl

pub then_just : {A : Type 0} (r : Result (A × ℕ) ℕ) → then_read just r ≡ r
then_just (Ok (a, n)) = refl
then_just (Err line) = refl

-- items before others, and before all that follows these
pub before_before : {A : Type 0} (some more : List A) (read : Numbered (List A)) (n : ℕ) → before some (before more read) n ≡ before (some ++ more) read n
before_before some more read n =
    after_after (read n) (λ others. just (more ++ others)) (λ others. just (some ++ others))
    ∙ same_after (read n) (λ others. just (some ++ (more ++ others))) (λ others. just ((some ++ more) ++ others)) (λ others k. ap (λ items. just items k) (sym (append_assoc some more others)))

pub before_nil : {A : Type 0} (read : Numbered (List A)) (n : ℕ) → before [] read n ≡ read n
before_nil read n = then_just (read n)

pub before_then : {A B : Type 0} (some : List B) (read : Numbered A) (next : A → Numbered (List B)) (n : ℕ)
    → before some (read >>= next) n ≡ (read >>= λ a. before some (next a)) n
before_then some read next n = after_after (read n) next (λ others. just (some ++ others))

pub same_before : {A : Type 0} (some : List A) (r s : Numbered (List A)) (n : ℕ) → r n ≡ s n → before some r n ≡ before some s n
same_before some r s n h = ap (then_read (λ others. just (some ++ others))) h

-- what the last of some things gives follows what those before it give
pub flat_each-push : {A I J : Type 0} (piece : A → Numbered (List I)) (xs : List A) (x : A) (g : List I → Numbered J) (n : ℕ)
    → (flat_each piece (xs ++ x ∷ []) >>= g) n ≡ (flat_each piece xs >>= λ some. piece x >>= λ more. g (some ++ more)) n
flat_each-push piece [] x g n =
    after_after (piece x n) (λ some. flat_each piece [] >>= λ others. just (some ++ others)) g
    ∙ same_after (piece x n) (λ some. (flat_each piece [] >>= λ others. just (some ++ others)) >>= g) g (λ some k. ap (λ items. g items k) (append-nil some))
flat_each-push piece (y ∷ ys) x g n =
    after_after (piece y n) (λ some. flat_each piece (ys ++ x ∷ []) >>= λ others. just (some ++ others)) g
    ∙ same_after (piece y n)
    (λ some. (flat_each piece (ys ++ x ∷ []) >>= λ others. just (some ++ others)) >>= g)
    (λ some. (flat_each piece ys >>= λ others. just (some ++ others)) >>= λ items. piece x >>= λ more. g (items ++ more))
    (λ some k.
    after_after (flat_each piece (ys ++ x ∷ []) k) (λ others. just (some ++ others)) g
    ∙ flat_each-push piece ys x (λ others. g (some ++ others)) k
    ∙ same_after (flat_each piece ys k)
    (λ others. piece x >>= λ more. g (some ++ (others ++ more)))
    (λ others. piece x >>= λ more. g ((some ++ others) ++ more))
    (λ others m. same_after (piece x m) (λ more. g (some ++ (others ++ more))) (λ more. g ((some ++ others) ++ more))
    (λ more j. ap (λ items. g items j) (sym (append_assoc some others more))))
    ∙ sym (after_after (flat_each piece ys k) (λ others. just (some ++ others)) (λ items. piece x >>= λ more. g (items ++ more))))
    ∙ sym (after_after (piece y n) (λ some. flat_each piece ys >>= λ others. just (some ++ others)) (λ items. piece x >>= λ more. g (items ++ more)))
