-- Numbers that are read a digit at a time.
use Rattle.std.proofs.Common.{◌≡◌, ℕ, zero, suc, ◌+◌, ◌-◌, ◌*◌, ◌^◌, ◌<◌, ◌≤◌, List, [], ◌∷◌, drop, take, length, None, Some, arith, refl, sym, ap, ◌∙◌}
use Rattle.std.proofs.Math.Nat.{pow-suc}
use Rattle.rst_markup_lines.specs.TextStart.{first}
use Rattle.rst_markup_lines.specs.Decimal.{digit, decimal}

-- digits read after a value
unfoldable pub decimal_from : ℕ → ℕ → List ℕ → ℕ
decimal_from value zero t = value
decimal_from value (suc n) [] = value
decimal_from value (suc n) (c ∷ cs) = decimal_from (value * 10 + digit c) n cs

one_on : (v d p q s : ℕ) → q ≡ p * 10 → (v * 10 + d) * p + s ≡ v * q + (d * p + s)
one_on v d p q s e = rw e (omega arith)

-- they spell what they do by themselves, and the value precedes them
after_value : (v n : ℕ) (t : List ℕ) → decimal_from v n t ≡ v * 10 ^ length (take n t) + decimal (take n t)
unfolding decimal_from decimal
after_value v zero t = omega arith
after_value v (suc n) [] = omega arith
after_value v (suc n) (c ∷ cs) =
    after_value (v * 10 + digit c) n cs
    ∙ one_on v (digit c) (10 ^ length (take n cs)) (10 ^ suc (length (take n cs))) (decimal (take n cs)) (pow-suc 10 (length (take n cs)))

pub decimal_is : (n : ℕ) (t : List ℕ) → decimal_from 0 n t ≡ decimal (take n t)
decimal_is n t = omega (arith, after_value 0 n t)

step : (v m k : ℕ) (cs : List ℕ) (c total : ℕ) → first cs ≡ Some c → m ≡ suc k → decimal_from v m cs ≡ total → decimal_from (v * 10 + digit c) k (drop 1 cs) ≡ total
unfolding decimal_from
step v m k [] c total e s t = cc
step v m k (d ∷ ds) c total e s t =
    let same : d ≡ c = cc in
    let one : decimal_from v m (d ∷ ds) ≡ decimal_from (v * 10 + digit c) k ds = rw (s, same) refl in sym one ∙ t

pub decimal_more : (v n k : ℕ) (cs : List ℕ) (c total : ℕ) → first cs ≡ Some c → k < n → decimal_from v (n - k) cs ≡ total → decimal_from (v * 10 + digit c) (n - (k + 1)) (drop 1 cs) ≡ total
decimal_more v n k cs c total e h t = step v (n - k) (n - (k + 1)) cs c total e (omega arith) t

pub decimal_over : (v m : ℕ) (cs : List ℕ) (total : ℕ) → m ≡ 0 → decimal_from v m cs ≡ total → v ≡ total
unfolding decimal_from
decimal_over v zero cs total e t = t
decimal_over v (suc m) cs total e t = absurd (omega arith)

pub decimal_none : (v m : ℕ) (cs : List ℕ) (total : ℕ) → first cs ≡ None → decimal_from v m cs ≡ total → v ≡ total
unfolding decimal_from
decimal_none v zero cs total e t = t
decimal_none v (suc m) [] total e t = t
decimal_none v (suc m) (c ∷ cs) total e t = cc

pub below_more : (v k d : ℕ) → v < 10 ^ k → d ≤ 9 → v * 10 + d < 10 ^ (k + 1)
below_more v k d h s = let p : 10 ^ (k + 1) ≡ 10 ^ k * 10 = ap (λ n. 10 ^ n) (let e : k + 1 ≡ suc k = omega arith in e) ∙ pow-suc 10 k in omega (arith, p)
