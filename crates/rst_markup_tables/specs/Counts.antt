-- How many numbers pass a test. No rule of markup: the rows and columns of tables are counted by it.
use Rattle.std.specs.Prelude.{ℕ, zero, suc, ◌+◌, Bool, if◌then◌else◌}

-- how many numbers below n pass
abbrev pub below : (ℕ → Bool) → ℕ → ℕ
below p zero = 0
below p (suc n) = below p n + (if p n then 1 else 0)
