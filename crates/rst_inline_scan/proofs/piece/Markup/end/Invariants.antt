use Rattle.std.proofs.Common.{◌≡◌, ℕ, ◌+◌, ◌-◌, ◌<◌, ◌≤◌, false, length}
use Rattle.rst_text.specs.Escapes.{is_escaped}
use Rattle.rst_inline_scan.specs.Marked.{start_len, ends}
use Rattle.rst_inline_scan.proofs.piece.Markup.end.Given as goal

abbrev pub invariant-loop-at : goal.invariant-loop-at
invariant-loop-at l = record {
  above : l.start < l.at;
  within : l.at ≤ length l.text;
  escaped : l.escaped ≡ is_escaped l.text l.place l.at;
  none : (k : ℕ) → l.start + start_len l.self + 1 ≤ k → k < l.at → ends l.self l.text l.place k ≡ false;
}

abbrev pub decreases-loop-at : goal.decreases-loop-at
decreases-loop-at l = length l.text - l.at
