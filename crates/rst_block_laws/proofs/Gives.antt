-- What holds of what is read, unless it is refused.
use Rattle.std.proofs.Common.{ℕ, List, [], ◌∷◌, Result, Ok, Err}
use Rattle.std.specs.Prelude.{IfOk}
use Rattle.std.specs.List.{AllByRecursion}
use Rattle.std.proofs.lemmas.Result.{IfOk-weaker}
use Rattle.rst_block_state.specs.Numbered.{Numbered, then_read, ◌>>=◌, just, each, flat_each}
use Rattle.rst_tree_laws.proofs.Lists.{all_append}

-- whatever number the next message has
pub record Gives {A : Type 0} (P : A → Type 0) (read : Numbered A) : Type 0 where
  pub at : (number : ℕ) → IfOk (read number) (λ r. P r.0)

pub gives : {A : Type 0} {P : A → Type 0} {read : Numbered A} → ((number : ℕ) → IfOk (read number) (λ r. P r.0)) → Gives P read
gives h = record { at = h }

pub give : {A : Type 0} {P : A → Type 0} {a : A} → P a → Gives P (just a)
give h = gives (λ number. h)

then_gives : {A C : Type 0} (P : A → Type 0) (Q : C → Type 0) (r : Result (A × ℕ) ℕ) (next : A → Numbered C) → IfOk r (λ a. P a.0) → ((a : A) → P a → Gives Q (next a)) → IfOk (then_read next r) (λ c. Q c.0)
then_gives P Q (Ok (a, n)) next h k = (k a h).at n
then_gives P Q (Err line) next h k = tt

pub after : {A C : Type 0} {P : A → Type 0} {Q : C → Type 0} {read : Numbered A} {next : A → Numbered C} → Gives P read → ((a : A) → P a → Gives Q (next a)) → Gives Q (read >>= next)
after {P = P} {Q = Q} {read = read} {next = next} h k = gives (λ number. then_gives P Q (read number) next (h.at number) k)

pub gives_more : {A : Type 0} {P Q : A → Type 0} {read : Numbered A} → ((a : A) → P a → Q a) → Gives P read → Gives Q read
gives_more {P = P} {Q = Q} {read = read} f h = gives (λ number. IfOk-weaker (read number) (λ r. P r.0) (λ r. Q r.0) (λ r. f r.0) (h.at number))

pub each_gives : {S A : Type 0} (B : S → Type 0) (P : A → Type 0) (read : S → Numbered A) → ((s : S) → B s → Gives P (read s)) → (ss : List S) → AllByRecursion B ss → Gives (AllByRecursion P) (each read ss)
each_gives B P read h [] b = give tt
each_gives B P read h (s ∷ ss) b = after (h s b.0) (λ a p. after (each_gives B P read h ss b.1) (λ rest q. give (p, q)))

pub flat_each_gives : {S A : Type 0} (B : S → Type 0) (P : A → Type 0) (read : S → Numbered (List A)) → ((s : S) → B s → Gives (AllByRecursion P) (read s)) → (ss : List S) → AllByRecursion B ss → Gives (AllByRecursion P) (flat_each read ss)
flat_each_gives B P read h [] b = give tt
flat_each_gives B P read h (s ∷ ss) b = after (h s b.0) (λ some p. after (flat_each_gives B P read h ss b.1) (λ others q. give (all_append P some others p q)))
