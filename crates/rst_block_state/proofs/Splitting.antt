-- A list whose first members, up to a number of them, are put into one list, and the others into another.
use Rattle.std.proofs.Common.{◌≡◌, ℕ, suc, ◌-◌, ◌<◌, List, [], ◌∷◌, ◌++◌, length, take, drop, sym, ap, ◌∙◌, arith, append_assoc, append-nil, length-append}
use Rattle.std.proofs.lemmas.List.{take_all, drop_all}

-- what was put into both, and what is left
pub record Splits {A : Type 0} (n : ℕ) (whole prefix back rest : List A) : Type 0 where
  pub prefixes : prefix ++ take (n - length prefix) rest ≡ take n whole
  pub backs : back ++ drop (n - length prefix) rest ≡ drop n whole

pub Splits-prefix : {A : Type 0} (n : ℕ) (whole prefix more back rest after : List A) (x : A) → Splits n whole prefix back rest → rest ≡ x ∷ after → length prefix < n → more ≡ prefix ++ x ∷ []
    → Splits n whole more back after
Splits-prefix n whole prefix more back rest after x s r h m =
    let k : n - length prefix ≡ suc (n - length more) = omega (arith, ap length m, length-append prefix (x ∷ [])) in
    record {
      prefixes = ap (λ f. f ++ take (n - length more) after) m
          ∙ append_assoc prefix (x ∷ []) (take (n - length more) after)
          ∙ ap (λ j. prefix ++ take j (x ∷ after)) (sym k)
          ∙ ap (λ l. prefix ++ take (n - length prefix) l) (sym r)
          ∙ s.prefixes;
      backs = ap (λ j. back ++ drop j (x ∷ after)) (sym k) ∙ ap (λ l. back ++ drop (n - length prefix) l) (sym r) ∙ s.backs;
    }

-- of no members there are no first ones
pub take_none : {A : Type 0} (n : ℕ) (xs : List A) → xs ≡ [] → take n xs ≡ []
take_none n xs e = take_all n xs (omega (arith, ap length e)) ∙ e

pub Splits-end : {A : Type 0} (n : ℕ) (whole prefix back rest : List A) → Splits n whole prefix back rest → rest ≡ [] → (prefix ≡ take n whole) × (back ≡ drop n whole)
Splits-end n whole prefix back rest s e = (
  sym (append-nil prefix) ∙ ap (λ l. prefix ++ l) (sym (take_none (n - length prefix) rest e)) ∙ s.prefixes,
  sym (append-nil back) ∙ ap (λ l. back ++ l) (sym (drop_all (n - length prefix) rest (omega (arith, ap length e)))) ∙ s.backs,
)
