-- A mask that is computed lane by lane is checked by a test of each of the 256 bytes.
use Rattle.std.proofs.Common.{◌≡◌, ⊎_elim, ℕ, ◌+◌, ◌*◌, get_or, ◌%◌, ◌^◌, ◌<◌, ◌≤◌, Bool, true, false, cond, not, T, List, [], ◌∷◌, map, length, refl, sym, ap, ap₂, ◌∙◌, arith, w8, Fits}
use Rattle.std.specs.List.{prefix_len}
use Rattle.std.proofs.lemmas.Simd.{mask_l-mod, length-chunk, trailing_mask_l, run_in_chunk_le, run_in_chunk_fails, run_in_chunk_stops}
use Rattle.std.proofs.lemmas.List.{length-map}
use Rattle.std.proofs.lemmas.List.Sums.{prefix_len-le-length}
use Rattle.std.proofs.lemmas.Bool.{cases_lt, agree_below, agree_below_at}
use lib.Count.{count_trailing_zeros}
use lib.Lanes.{zip2, mask_l, top, Each1, chunk}

t_true : (b : Bool) → T b → b ≡ true
t_true true h = refl
t_true false h = absurd h

each_byte : (f : ℕ → ℕ) (p : ℕ → Bool) → T (agree_below (λ x. top 7 (f x)) p 256) → (v : List ℕ) → Each1 (Fits w8) v → map (top 7) (map f v) ≡ map p v
each_byte f p all [] fits = refl
each_byte f p all (x ∷ xs) fits = ap₂ (λ a b. a ∷ b) (agree_below_at (λ y. top 7 (f y)) p 256 x (t_true _ all) fits.0.fits) (each_byte f p all xs fits.1)

-- the mask of lanes that f computes, where the top bit of each shows whether the byte passes the test
pub masked : (f : ℕ → ℕ) (p : ℕ → Bool) (v z : List ℕ) → length v ≤ 64 → Each1 (Fits w8) v → z ≡ map f v → T (agree_below (λ x. top 7 (f x)) p 256)
    → mask_l (map (top 7) z) % 2 ^ 64 ≡ mask_l (map p v)
masked f p v z short fits e all =
    ap (λ l. mask_l l % 2 ^ 64) (ap (map (top 7)) e ∙ each_byte f p all v fits) ∙ mask_l-mod (map p v) 64 (omega (arith, length-map v p))

zip2-map : (h : ℕ → ℕ → ℕ) (f g : ℕ → ℕ) (xs : List ℕ) → zip2 h (map f xs) (map g xs) ≡ map (λ x. h (f x) (g x)) xs
zip2-map h f g [] = refl
zip2-map h f g (x ∷ xs) = ap (λ r. h (f x) (g x) ∷ r) (zip2-map h f g xs)

-- an operation on two vectors that were computed lane by lane from v
pub joined : (h : ℕ → ℕ → ℕ) (f g : ℕ → ℕ) (v : List ℕ) {a b : List ℕ} → a ≡ map f v → b ≡ map g v → zip2 h a b ≡ map (λ x. h (f x) (g x)) v
joined h f g v p q = ap₂ (zip2 h) p q ∙ zip2-map h f g v

-- r is the first of the n lanes from i on that passes
pub record IsFirstLane (p : ℕ → Bool) (xs : List ℕ) (i n r : ℕ) : Type 0 where
  pub inside : r < n
  pub before : (k : ℕ) → i ≤ k → k < i + r → p (get_or xs k 0) ≡ false
  pub passes : p (get_or xs (i + r) 0) ≡ true

-- no lane passes the test
none_fails : (b : Bool) (n l m : ℕ) → n ≤ l → cond (not b) (1 + n) 0 ≡ 1 + l → (n ≡ l → m ≡ 0) → cond b 1 0 + 2 * m ≡ 0
none_fails true n l m le e rest = let no : ⊥ = omega arith in absurd no
none_fails false n l m le e rest = let none = rest (omega arith) in omega arith

none_pass : (p : ℕ → Bool) (xs : List ℕ) → prefix_len (λ x. not (p x)) xs ≡ length xs → mask_l (map p xs) ≡ 0
none_pass p [] e = refl
none_pass p (x ∷ xs) e = none_fails (p x) _ (length xs) _ (prefix_len-le-length (λ y. not (p y)) xs) (omega arith) (none_pass p xs)

-- the lowest bit of a mask that is set is that of the first lane that passes
pub lowest_passes : (p : ℕ → Bool) (xs : List ℕ) (i n mask : ℕ) → i + n ≤ length xs → n ≤ 64 → mask ≡ mask_l (map p (chunk i n xs)) → 0 < mask → IsFirstLane p xs i n (count_trailing_zeros 64 mask)
lowest_passes p xs i n mask room short is some =
    let lanes = chunk i n xs in
    let long : length lanes ≡ n = length-chunk i n xs room in
    let counted : count_trailing_zeros 64 mask ≡ prefix_len (λ x. not (p x)) lanes = ap (count_trailing_zeros 64) is ∙ trailing_mask_l p 64 lanes (omega (arith, long)) (omega (arith, is)) in
    let within = run_in_chunk_le p xs i n (count_trailing_zeros 64 mask) 0 room counted in
    let some_passes : count_trailing_zeros 64 mask ≡ n → ⊥ = λ e. let all : prefix_len (λ x. not (p x)) lanes ≡ length lanes = sym counted ∙ e ∙ sym long in omega (arith, some, is, none_pass p lanes all) in
    let inside : count_trailing_zeros 64 mask < n = ⊎_elim (λ less. less) (λ over. absurd (some_passes (omega arith))) (cases_lt (count_trailing_zeros 64 mask) n) in
    record {
      inside = inside;
      before = run_in_chunk_fails p xs i n (count_trailing_zeros 64 mask) 0 room counted;
      passes = run_in_chunk_stops p xs i n (count_trailing_zeros 64 mask) 0 room counted inside;
    }
