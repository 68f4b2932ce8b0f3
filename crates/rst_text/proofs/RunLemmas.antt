-- Sixteen bytes that pass a test at once.
use Rattle.std.proofs.Common.{◌≡◌, ⊎_elim, ℕ, zero, suc, ◌+◌, ◌-◌, ◌*◌, ◌/◌, ◌^◌, ◌<◌, ◌≤◌, Bool, true, false, List, [], ◌∷◌, cond, length, take, drop, ap, get_or, sym, ◌∙◌, arith, map}
use Rattle.std.proofs.lemmas.Bool.{cases_lt, not-true, not-false}
use Rattle.std.proofs.Math.Nat.{div-one}
use Rattle.std.proofs.Math.Numerals.{one-add}
use Rattle.std.proofs.lemmas.Nat.{shr_le, shr-shr}
use Rattle.std.proofs.lemmas.List.{drop-map, drop-take, drop-drop}
use Rattle.std.proofs.lemmas.Simd.{none_from_empty_mask}
use lib.Count.{count_trailing_zeros}
use lib.Lanes.{mask_l, chunk}
use Rattle.rst_text.proofs.LaneLemmas.{lowest_passes}
use Rattle.rst_text.specs.Runs.{fails_test, PassBetween, IsRun}

pass-more : (p : ℕ → Bool) (t : List ℕ) (place at to : ℕ) → PassBetween p t place at → ((k : ℕ) → at ≤ k → k < to → fails_test p (get_or t k 0) ≡ false) → PassBetween p t place to
pass-more p t place at to before none k low less = ⊎_elim (before k low) (λ past. not-false (p (get_or t k 0)) (none k past less)) (cases_lt k at)

-- ---- the last sixteen bytes, without the first of them

halved : (b : Bool) (m : ℕ) → (cond b 1 0 + 2 * m) / 2 ≡ m
halved true m = omega arith
halved false m = omega arith

mask_l-drop : (bs : List Bool) (k : ℕ) → mask_l bs / 2 ^ k ≡ mask_l (drop k bs)
mask_l-drop bs zero = div-one (mask_l bs)
mask_l-drop [] (suc k) = omega (arith, shr_le 0 (suc k))
mask_l-drop (b ∷ bs) (suc k) = ap (λ n. mask_l (b ∷ bs) / 2 ^ n) (sym (one-add k)) ∙ sym (shr-shr (mask_l (b ∷ bs)) 1 k) ∙ ap (λ m. m / 2 ^ k) (halved b (mask_l bs)) ∙ mask_l-drop bs k

pub last-lanes : (f : ℕ → Bool) (t : List ℕ) (at mask : ℕ) → length t ≤ at + 16 → 16 ≤ length t → at ≤ length t → mask ≡ mask_l (map f (chunk (length t - 16) 16 t))
    → mask / 2 ^ (at - (length t - 16)) ≡ mask_l (map f (chunk at (length t - at) t))
last-lanes f t at mask above some below is =
    let start : ℕ = length t - 16 in
    let split : 16 ≡ (at - start) + (length t - at) = omega arith in
    let moved : start + (at - start) ≡ at = omega arith in
    ap (λ m. m / 2 ^ (at - start)) is ∙ mask_l-drop (map f (chunk start 16 t)) (at - start) ∙ ap mask_l (drop-map f (at - start) (chunk start 16 t)
    ∙ ap (map f) (ap (λ n. drop (at - start) (chunk start n t)) split ∙ drop-take (at - start) (length t - at) (drop start t) ∙ ap (take (length t - at)) (drop-drop (at - start) start t ∙ ap (λ n. drop n t) moved)))

-- all lanes pass
pub none-failing : (p : ℕ → Bool) (t : List ℕ) (place at n to mask : ℕ) → at + n ≡ to → to ≤ length t → PassBetween p t place at → mask ≡ mask_l (map (fails_test p) (chunk at n t)) → mask ≡ 0 → PassBetween p t place to
none-failing p t place at n to mask end room before is none = pass-more p t place at to before (λ k low less. none_from_empty_mask (fails_test p) t at n 0 (omega arith) (sym is ∙ none) k low (omega arith))

-- a lane fails
pub first-failing : (p : ℕ → Bool) (t : List ℕ) (place at n mask : ℕ) → at + n ≤ length t → n ≤ 64 → place ≤ at → PassBetween p t place at → mask ≡ mask_l (map (fails_test p) (chunk at n t)) → 0 < mask
    → IsRun p t place (at + count_trailing_zeros 64 mask)
first-failing p t place at n mask room short order before is some =
    let first = lowest_passes (fails_test p) t at n mask room short is some in
    let inside = first.inside in
    record {
      above = omega arith;
      within = omega arith;
      pass = pass-more p t place at (at + count_trailing_zeros 64 mask) before first.before;
      stops = λ less. not-true (p (get_or t (at + count_trailing_zeros 64 mask) 0)) first.passes;
    }
