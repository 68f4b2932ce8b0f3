-- Widths that are read one after the other.
use Rattle.std.proofs.Common.{ℕ, List, ◌++◌, Option, Some, None}

-- widths, and those that come after them if these are right
abbrev pub after_widths : List ℕ → Option (List ℕ) → Option (List ℕ)
after_widths done (Some more) = Some (done ++ more)
after_widths done None = None
