-- Texts as they are kept. No rule of markup: they are one after another, in UTF-8.
use Rattle.std.specs.Prelude.{◌≡◌, ℕ, ◌<◌, ◌≤◌, List, [], ◌∷◌, drop, length, slice_range}
use Rattle.std.specs.Str.{chars, IsCharBoundary}
use Rattle.rst_text.specs.Block.{Block, first_text}

-- places in the bytes where characters begin, in order, the last of them the end
abbrev pub AreStarts : List ℕ → List ℕ → Type 0
AreStarts bytes [] = ⊥
AreStarts bytes (s ∷ []) = s ≡ length bytes
AreStarts bytes (s ∷ e ∷ es) = (s ≤ e) × IsCharBoundary bytes s × AreStarts bytes (e ∷ es)

-- the texts that begin at these places but the last, each up to the next
abbrev pub texts_in : List ℕ → List ℕ → List (List ℕ)
texts_in bytes [] = []
texts_in bytes (s ∷ []) = []
texts_in bytes (s ∷ e ∷ es) = chars (slice_range bytes s e) ∷ texts_in bytes (e ∷ es)

-- the lines from one place up to another are empty
abbrev pub AreEmpty : Block → ℕ → ℕ → Type 0
AreEmpty lines from to = (k : ℕ) → from ≤ k → k < to → first_text (drop k lines) ≡ []

-- some empty lines from one place on, no further than to another
pub record IsEmptyRun (lines : Block) (from to end : ℕ) : Type 0 where
  pub above : from ≤ end
  pub within : end ≤ to
  pub empty : AreEmpty lines from end
