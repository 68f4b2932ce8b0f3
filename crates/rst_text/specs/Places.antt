-- The least and the greatest place that passes a test. No rule of markup: rules speak of places by it. A place is a number,
-- counted from 0.
use Rattle.std.specs.Prelude.{◌≡◌, ℕ, zero, suc, ◌+◌, ◌<◌, ◌≤◌, Bool, true, false, ◌&&◌, if◌then◌else◌, Option, Some, None}

-- the least of the n places from `low` on that passes
abbrev pub first_from : (ℕ → Bool) → ℕ → ℕ → Option ℕ
first_from p low zero = None
first_from p low (suc n) = if p low then Some low else first_from p (low + 1) n

-- the greatest of the n places from `low` on that passes
abbrev pub last_from : (ℕ → Bool) → ℕ → ℕ → Option ℕ
last_from p low zero = None
last_from p low (suc n) = if p (low + n) then Some (low + n) else last_from p low n

-- each of the n places from `low` on passes
abbrev pub all_from : (ℕ → Bool) → ℕ → ℕ → Bool
all_from p low zero = true
all_from p low (suc n) = p (low + n) && all_from p low n

-- no place from `low` up to `high` passes
abbrev pub NoneFrom : (ℕ → Bool) → ℕ → ℕ → Type 0
NoneFrom p low high = (k : ℕ) → low ≤ k → k < high → p k ≡ false

-- the least place from `low` up to `high` that passes
abbrev pub IsFirst : (ℕ → Bool) → ℕ → ℕ → Option ℕ → Type 0
IsFirst p low high (Some i) = (low ≤ i) × (i < high) × (p i ≡ true) × NoneFrom p low i
IsFirst p low high None = NoneFrom p low high

-- the greatest place from `low` up to `high` that passes
abbrev pub IsLast : (ℕ → Bool) → ℕ → ℕ → Option ℕ → Type 0
IsLast p low high (Some i) = (low ≤ i) × (i < high) × (p i ≡ true) × NoneFrom p (i + 1) high
IsLast p low high None = NoneFrom p low high
