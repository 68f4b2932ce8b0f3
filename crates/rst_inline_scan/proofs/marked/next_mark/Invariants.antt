use Rattle.std.proofs.Common.{◌≢◌, ℕ, ◌<◌, ◌≤◌, get_or}
use Rattle.rst_inline_scan.proofs.marked.next_mark.Given as goal

abbrev pub invariant-loop-at : goal.invariant-loop-at
invariant-loop-at l = record {
  unmarked : (k : ℕ) → l.from ≤ k → k < l.at → get_or l.text k 0 ≢ l.mark;
  bare : (k : ℕ) → l.from ≤ k → k < l.at → get_or l.text k 0 ≢ 92;
}
