-- Bytes that are copied to a place among others.
use Rattle.std.proofs.Common.{◌≡◌, ⊎_elim, ℕ, ◌+◌, ◌-◌, ◌<◌, ◌≤◌, min, Bool, true, false, List, ◌++◌, length, take, drop, get_or, map, ap, sym, subst, ◌∙◌, arith, lit≤, append_assoc, length-take-le, length-drop, take-add, take-take, take_at, drop_at, take_all, take-append-drop}
use Rattle.std.proofs.Math.Seq.{take-length}
use Rattle.std.proofs.lemmas.Bool.{cases_lt, not-true, not-false}
use Rattle.std.proofs.lemmas.List.{drop-take, get_or-drop}
use Rattle.std.proofs.lemmas.Simd.{take_more_put_chunk, length-chunk, get_or-chunk, none_from_empty_mask}
use lib.Count.{count_trailing_zeros}
use lib.Lanes.{mask_l, chunk, put_chunk}
use Rattle.rst_text.proofs.LaneLemmas.{lowest_passes}
use Rattle.rst_text.specs.Runs.{fails_test, PassBetween, IsRun}

-- of some bytes that were copied to a place, the first n
pub placed-less : (a b xs : List ℕ) (i j n : ℕ) → i ≤ length a → i + n ≤ j → take j b ≡ take i a ++ xs → take (i + n) b ≡ take i a ++ take n xs
placed-less a b xs i j n within few p =
    let front = length-take-le i a within in
    sym (take-take (i + n) j b few) ∙ ap (take (i + n)) p ∙ take-add i n (take i a ++ xs) ∙ (λ k. take_at (take i a) xs i front k ++ take n (drop_at (take i a) xs i front k))

-- and others right after them
pub placed-then : (a b c xs ys : List ℕ) (i j k : ℕ) → take j b ≡ take i a ++ xs → take k c ≡ take j b ++ ys → take k c ≡ take i a ++ (xs ++ ys)
placed-then a b c xs ys i j k p q = q ∙ ap (λ l. l ++ ys) p ∙ append_assoc (take i a) xs ys

-- the first bytes of a text and the last ones, laid over each other, are the text
pub placed-ends : (a b c text : List ℕ) (i n : ℕ) → i ≤ length a → n ≤ length text → length text ≤ n + n → take (i + n) b ≡ take i a ++ take n text
    → take (i + (length text - n) + n) c ≡ take (i + (length text - n)) b ++ take n (drop (length text - n) text) → take (i + length text) c ≡ take i a ++ text
placed-ends a b c text i n within half covers p q =
    let last = length text - n in
    let end : i + last + n ≡ i + length text = omega arith in
    let whole : take last (take n text) ++ take n (drop last text) ≡ text =
    (λ x. take-take last n text (omega arith) x ++ take_all n (drop last text) (omega (arith, length-drop last text)) x) ∙ take-append-drop last text in
    ap (λ m. take m c) (sym end) ∙ placed-then a b c (take last (take n text)) (take n (drop last text)) i (i + last) _ (placed-less a b (take n text) i (i + n) last within (omega arith) p) q ∙ ap (λ l. take i a ++ l) whole

-- sixteen more bytes of a text
pub placed-more : (a b text : List ℕ) (at done : ℕ) → done + 16 ≤ length text → at + (done + 16) ≤ length b → take (at + done) b ≡ take at a ++ take done text
    → take (at + (done + 16)) (put_chunk (at + done) b (chunk done 16 text)) ≡ take at a ++ take (done + 16) text
placed-more a b text at done within room p =
    let lanes = chunk done 16 text in
    let long : length lanes ≡ 16 = length-chunk done 16 text within in
    take_more_put_chunk (at + done) b lanes (at + (done + 16)) (omega (arith, long)) room ∙ ap (λ l. l ++ lanes) p ∙ append_assoc (take at a) (take done text) lanes ∙ ap (λ l. take at a ++ l) (sym (take-add done 16 text))

-- of a text that was copied to a place, the first n bytes
pub placed-front : (a b text : List ℕ) (at m n : ℕ) → at ≤ length a → n ≤ m → take (at + m) b ≡ take at a ++ take m text → take (at + n) b ≡ take at a ++ take n text
placed-front a b text at m n within less p = placed-less a b (take m text) at (at + m) n within (omega arith) p ∙ ap (λ l. take at a ++ l) (take-take n m text less)

-- the rest of a text after its first bytes
pub placed-rest : (a b c text : List ℕ) (at done : ℕ) → done ≤ length text → take (at + done) b ≡ take at a ++ take done text → take (at + done + length (drop done text)) c ≡ take (at + done) b ++ drop done text
    → take (at + length text) c ≡ take at a ++ take (length text) text
placed-rest a b c text at done within p q =
    let end : at + done + length (drop done text) ≡ at + length text = omega (arith, length-drop done text) in
    ap (λ n. take n c) (sym end) ∙ placed-then a b c (take done text) (drop done text) at (at + done) _ p q ∙ ap (λ l. take at a ++ l) (take-append-drop done text ∙ sym (take-length text))

-- the bytes that were copied to a place
pub placed-there : (b c xs : List ℕ) (to : ℕ) → to ≤ length b → take (to + length xs) c ≡ take to b ++ xs → chunk to (length xs) c ≡ xs
placed-there b c xs to within p = sym (drop-take to (length xs) c) ∙ ap (drop to) p ∙ drop_at (take to b) xs to (length-take-le to b within)

module _ (p : ℕ → Bool) (text all : List ℕ) (to done n : ℕ) (whole : done + n ≡ length text) (before : PassBetween p text 0 done) (same : chunk to n all ≡ drop done text) where
  same_byte : (k : ℕ) → k < n → p (get_or text (done + k) 0) ≡ p (get_or all (to + k) 0)
  same_byte k less = ap p (sym (get_or-drop done text k 0) ∙ ap (λ l. get_or l k 0) (sym same) ∙ get_or-chunk to n all k 0 less)

  -- where the rest of a text is looked at in another place, the run of the text ends at the first byte that fails there
  run-there : (r : ℕ) → ((k : ℕ) → k < r → k < n → p (get_or all (to + k) 0) ≡ true) → (r < n → p (get_or all (to + r) 0) ≡ false) → IsRun p text 0 (done + min n r)
  run-there r passes fails = record {
    above = omega arith;
    within = omega (arith, whole);
    pass = λ k low less. ⊎_elim (before k low) (λ past.
        let e : done + (k - done) ≡ k = omega arith in
        let inside : k - done < n = omega arith in
        let early : k - done < r = omega arith in
        subst (λ i. p (get_or text i 0) ≡ true) e (same_byte (k - done) inside ∙ passes (k - done) early inside)) (cases_lt k done);
    stops = λ less.
        let inside : r < n = omega (arith, whole) in
        let e : done + r ≡ done + min n r = omega arith in
        subst (λ i. p (get_or text i 0) ≡ false) e (same_byte r inside ∙ fails inside);
  }

  none_of : (mask : ℕ) → mask < 1 → mask ≡ 0
  none_of mask less = omega arith

  -- so the mask of sixteen bytes there gives its end
  pub run-of-mask : (mask : ℕ) → n ≤ 16 → to + 16 ≤ length all → mask ≡ mask_l (map (fails_test p) (chunk to 16 all)) → IsRun p text 0 (done + min n (count_trailing_zeros 64 mask))
  unfolding count_trailing_zeros
  run-of-mask mask few room is = ⊎_elim
      (λ none. subst (λ m. IsRun p text 0 (done + min n (count_trailing_zeros 64 m))) (sym (none_of mask none))
      (run-there 64 (λ k early inside. not-false (p (get_or all (to + k) 0)) (none_from_empty_mask (fails_test p) all to 16 0 (omega arith) (sym is ∙ none_of mask none) (to + k) (omega arith) (omega arith))) (λ less. absurd (omega arith))))
      (λ some.
      let first = lowest_passes (fails_test p) all to 16 mask room (lit≤ tt) is some in
      run-there (count_trailing_zeros 64 mask) (λ k early inside. not-false (p (get_or all (to + k) 0)) (first.before (to + k) (omega arith) (omega arith)))
      (λ inside. not-true (p (get_or all (to + count_trailing_zeros 64 mask) 0)) first.passes))
      (cases_lt mask 1)
