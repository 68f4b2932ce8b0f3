-- Runs of bytes that pass a test. No rule of markup: they are stepped over.
use Rattle.std.specs.Prelude.{◌≡◌, ℕ, ◌<◌, ◌≤◌, Bool, true, false, not, List, slice_index, length}

-- the character doesn't pass
abbrev pub fails_test : (ℕ → Bool) → ℕ → Bool
fails_test p c = not (p c)

-- from one place up to another each passes
abbrev pub PassBetween : (ℕ → Bool) → List ℕ → ℕ → ℕ → Type 0
PassBetween p t from to = (k : ℕ) → from ≤ k → k < to → p (slice_index t k) ≡ true

-- those from one place up to another pass, and the next, if there is one, fails
pub record IsRun (p : ℕ → Bool) (t : List ℕ) (from to : ℕ) : Type 0 where
  pub above : from ≤ to
  pub within : to ≤ length t
  pub pass : PassBetween p t from to
  pub stops : to < length t → p (slice_index t to) ≡ false
