-- Attributes put at their places.
use Rattle.std.proofs.lemmas.Bool.{and_from, and_parts, cond_both, eqb-true}
use Rattle.std.proofs.lemmas.Grind.{common_steps}
use Rattle.std.proofs.Common.{nat_eq, ℕ, ◌≡◌, ◌+◌, ◌≤◌, List, [], ◌∷◌, length, drop, set, add-one, refl, ap, arith, true, false, nat_lt}
use Rattle.std.specs.Prelude.{if◌then◌else◌}
use Rattle.std.specs.List.{insert, remove}
use Rattle.std.proofs.Common.{get_or, Some, None, ◌<◌}
use Rattle.rst_tree.specs.declared.attrs.Attr.{Attr}
use Rattle.rst_tree.specs.declared.attrs.Value.{Value}
use Rattle.rst_tree.specs.declared.key.Key.{Key}
use Rattle.rst_tree.specs.KeyNames.{key_code, is_same}
use Rattle.rst_tree.specs.Attributes.{are_keys_in_order, attr, places_below, with_attr, is_at, value_of, place_named, without_key}

-- a value in place of the one before
pub set_there : (k : Key) (v : Value) (xs : List Attr) → is_at k (drop (places_below k xs) xs) ≡ true → set xs (places_below k xs) (attr k v) ≡ with_attr k v xs
set_there k v [] h = cc
set_there k v (a ∷ xs) h = grind (arith, common_steps, set_there k v xs)

-- a new attribute between its neighbours
pub put_there : (k : Key) (v : Value) (xs : List Attr) → is_at k (drop (places_below k xs) xs) ≡ false → insert xs (places_below k xs) (attr k v) ≡ with_attr k v xs
put_there k v [] h = refl
put_there k v (a ∷ xs) h = grind (arith, common_steps, put_there k v xs)

-- a name is before another one, the same, or after it
trichotomy : (m n : ℕ) → nat_lt m n ≡ false → nat_eq m n ≡ false → nat_lt n m ≡ true
trichotomy m n h k = grind (arith, h, k)

below : (m n p : ℕ) → nat_lt m n ≡ true → nat_lt n p ≡ true → nat_lt m p ≡ true
below m n p h k = grind (arith, h, k)

-- the head of the attributes with k is no earlier than a name that is before k and before the old head
rises : (k : Key) (v : Value) (a : Attr) (xs : List Attr) → nat_lt (key_code a.key) (key_code k) ≡ true → are_keys_in_order (a ∷ xs) ≡ true → are_keys_in_order (with_attr k v xs) ≡ true → are_keys_in_order (a ∷ with_attr k v xs) ≡ true
rises k v a [] low h = λ g. and_from _ _ low refl
rises k v a (b ∷ xs) low h =
    let ordered : List Attr → Type 0 = λ l. are_keys_in_order l ≡ true → are_keys_in_order (a ∷ l) ≡ true in
    cond_both (nat_lt (key_code b.key) (key_code k)) _ _ ordered
    (λ _. and_from _ _ (and_parts _ _ h).0)
    (λ _. cond_both (is_same b.key k) _ _ ordered (λ _. and_from _ _ low) (λ _. and_from _ _ low))

head_same : (k : Key) (v : Value) (a : Attr) (xs : List Attr) → is_same a.key k ≡ true → are_keys_in_order (a ∷ xs) ≡ true → are_keys_in_order (attr k v ∷ xs) ≡ true
head_same k v a [] same h = refl
head_same k v a (b ∷ xs) same h =
    let p = and_parts (nat_lt (key_code a.key) (key_code b.key)) (are_keys_in_order (b ∷ xs)) h in
    let e = eqb-true (key_code a.key) (key_code k) same in and_from _ _ (rw e at p.0) p.1

rest : (a : Attr) (xs : List Attr) → are_keys_in_order (a ∷ xs) ≡ true → are_keys_in_order xs ≡ true
rest a [] h = refl
rest a (b ∷ xs) h = (and_parts (nat_lt (key_code a.key) (key_code b.key)) (are_keys_in_order (b ∷ xs)) h).1

pub are_keys_in_order-with_attr : (k : Key) (v : Value) (xs : List Attr) → are_keys_in_order xs ≡ true → are_keys_in_order (with_attr k v xs) ≡ true
are_keys_in_order-with_attr k v [] h = refl
are_keys_in_order-with_attr k v (a ∷ xs) h =
    let tail = are_keys_in_order-with_attr k v xs (rest a xs h) in
    cond_both (nat_lt (key_code a.key) (key_code k)) _ _ (λ l. are_keys_in_order l ≡ true)
    (λ low. rises k v a xs low h tail)
    (λ high. cond_both (is_same a.key k) _ _ (λ l. are_keys_in_order l ≡ true)
    (λ same. head_same k v a xs same h)
    (λ other. and_from _ _ (trichotomy (key_code a.key) (key_code k) high other) h))

-- what comes before the first two names comes before the second alone
before_next : (a b : Attr) (xs : List Attr) → nat_lt (key_code a.key) (key_code b.key) ≡ true → are_keys_in_order (b ∷ xs) ≡ true → are_keys_in_order (a ∷ xs) ≡ true
before_next a b [] low h = refl
before_next a b (c ∷ xs) low h = let p = and_parts _ _ h in and_from _ _ (below (key_code a.key) (key_code b.key) (key_code c.key) low p.0) p.1

pub are_keys_in_order-without_key : (k : Key) (xs : List Attr) → are_keys_in_order xs ≡ true → are_keys_in_order (without_key k xs) ≡ true
are_keys_in_order-without_key k [] h = refl
are_keys_in_order-without_key k (a ∷ []) h = cond_both (is_same a.key k) [] (a ∷ []) (λ l. are_keys_in_order l ≡ true) (λ _. refl) (λ _. refl)
are_keys_in_order-without_key k (a ∷ b ∷ xs) h =
    let p = and_parts _ _ h in
    let tail = are_keys_in_order-without_key k (b ∷ xs) p.1 in
    cond_both (is_same a.key k) _ _ (λ l. are_keys_in_order l ≡ true) (λ _. p.1)
    (λ _. cond_both (is_same b.key k) _ _ (λ l. are_keys_in_order l ≡ true → are_keys_in_order (a ∷ l) ≡ true) (λ _ g. before_next a b xs p.0 p.1) (λ _. and_from _ _ p.0) tail)

-- the attribute of a name, and the others
pub named_value : (k : Key) (xs : List Attr) (a : Attr) → place_named k xs < length xs → a ≡ get_or xs (place_named k xs) a → Some a.value ≡ value_of k xs
named_value k [] a h is = absurd (omega arith)
named_value k (x ∷ xs) a h is =
    elim (is_same x.key k) as (λ b. (if b then 0 else place_named k xs + 1) < length (x ∷ xs) → a ≡ get_or (x ∷ xs) (if b then 0 else place_named k xs + 1) a → Some a.value ≡ (if b then Some x.value else value_of k xs)) [
      | true ↦ λ h is. ap (λ z. Some z.value) is
      | false ↦ λ h is. named_value k xs a (omega arith) (rw add-one at is)
    ] h is

pub named_rest : (k : Key) (xs : List Attr) → remove xs (place_named k xs) ≡ without_key k xs
named_rest k [] = refl
named_rest k (x ∷ xs) = grind (arith, common_steps, named_rest k xs)

pub unnamed_value : (k : Key) (xs : List Attr) → length xs ≤ place_named k xs → None ≡ value_of k xs
unnamed_value k [] h = refl
unnamed_value k (x ∷ xs) h = grind (arith, unnamed_value k xs)

pub unnamed_rest : (k : Key) (xs : List Attr) → length xs ≤ place_named k xs → xs ≡ without_key k xs
unnamed_rest k [] h = refl
unnamed_rest k (x ∷ xs) h = grind (arith, unnamed_rest k xs)
