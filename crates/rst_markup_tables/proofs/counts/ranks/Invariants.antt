use Rattle.std.proofs.Common.{◌≡◌, ◌≤◌, ◌<◌, ℕ, false, get_or, length}
use Rattle.rst_markup_tables.specs.Counts.{below}
use Rattle.rst_markup_tables.proofs.counts.ranks.Given as goal

abbrev pub invariant-loop-place : goal.invariant-loop-place
invariant-loop-place l = record {
  size : length l.ranks.items ≡ l.place;
  few : l.count ≤ l.place;
  here : l.count ≡ below (λ j. get_or l.marks j false) l.place;
  at : (k : ℕ) → k < l.place → get_or l.ranks.items k 0 ≡ below (λ j. get_or l.marks j false) k;
}
