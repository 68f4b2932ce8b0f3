-- Numbers that are marked in a list. No rule of markup: the bounds of a grid table's rows and columns are kept so.
use Rattle.std.specs.Prelude.{◌≡◌, ℕ, ◌<◌, ◌≤◌, Bool, false, ◌||◌, List, get_or, length}

-- the numbers that pass are marked, too
pub record Marks (p : ℕ → Bool) (old new : List Bool) : Type 0 where
  pub size : length new ≡ length old
  pub at : (k : ℕ) → get_or new k false ≡ (get_or old k false || p k)

-- just the numbers below n that pass are marked
pub record AreMarked (p : ℕ → Bool) (n : ℕ) (marks : List Bool) : Type 0 where
  pub size : length marks ≡ n
  pub at : (k : ℕ) → k < n → get_or marks k false ≡ p k

-- for each number up to the size how many marks come before it
pub record AreRanks (rank : ℕ → ℕ) (n : ℕ) (ranks : List ℕ) : Type 0 where
  pub size : n < length ranks
  pub at : (k : ℕ) → k ≤ n → get_or ranks k 0 ≡ rank k
