-- The work that is left while blocks wait for one another: fewer blocks, or less in them, is less, whatever is inside them.
use Rattle.std.proofs.Common.{◌≡◌, ℕ, zero, suc, ◌+◌, ◌*◌, ◌<◌, ◌≤◌, ◌++◌, List, [], ◌∷◌, length, arith, refl, ap, ◌∙◌}
use Rattle.std.proofs.Math.Nat.{mul-add, mul_comm, mul-lt-mul_of_pos_left}
use Rattle.std.proofs.lemmas.Nat.{mul-add-lt}
use Rattle.rst_block.specs.Reading.{scale, work}

scale-lt : (m l : ℕ) {a b : ℕ} → 0 < m → a < b → scale m l a < scale m l b
scale-lt m zero p h = h
scale-lt m (suc l) p h = scale-lt m l p (mul-lt-mul_of_pos_left h p)

scale-add : (m l a b : ℕ) → scale m l (a + b) ≡ scale m l a + scale m l b
scale-add m zero a b = refl
scale-add m (suc l) a b = ap (scale m l) (mul-add m a b) ∙ scale-add m l (m * a) (m * b)

work-nil : (m l w : ℕ) → work m l [] w ≡ scale m l w
work-nil m zero w = refl
work-nil m (suc l) w = refl

-- less is left in the block that is read
pub less : (m l : ℕ) (ws : List ℕ) {w v : ℕ} → 0 < m → v < w → work m l ws v < work m l ws w
less m zero ws p h = h
less m (suc l) [] p h = scale-lt m (suc l) p h
less m (suc l) (u ∷ ws) p h = let i = less m l ws p h in omega (arith, i)

-- a block inside is opened
pub more : (m l : ℕ) (ws : List ℕ) {w v u : ℕ} → length ws < l → v < w → u < m → work m l (ws ++ v ∷ []) u < work m l ws w
more m zero ws h vw um = absurd (omega arith)
more m (suc l) [] {w} {v} {u} h vw um =
    let n : work m l [] u ≡ scale m l u = work-nil m l u in
    let s : scale m l (m * v + u) ≡ scale m l (m * v) + scale m l u = scale-add m l (m * v) u in
    let k : scale m l (m * v + u) < scale m l (m * w) = scale-lt m l (omega arith) (row v u vw um) in
    omega (arith, n, s, k)
  where
    row : (v u : ℕ) → v < w → u < m → m * v + u < m * w
    row v u vw um = omega (arith, mul_comm m v, mul_comm m w, mul-add-lt v m u w vw um)
more m (suc l) (t ∷ ws) h vw um = let i = more m l ws (omega arith) vw um in omega (arith, i)

-- a block that waits has at least what is left in it
pub last : (m l : ℕ) (ws : List ℕ) (v w : ℕ) → length ws < l → work m l ws v ≤ work m l (ws ++ v ∷ []) w
last m zero ws v w h = absurd (omega arith)
last m (suc l) [] v w h = omega arith
last m (suc l) (t ∷ ws) v w h = let i = last m l ws v w (omega arith) in omega (arith, i)
