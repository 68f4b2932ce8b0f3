use Rattle.std.proofs.Common.{◌≡◌, ℕ, ◌<◌, ◌≤◌, true, get_or}
use Rattle.std.specs.Char.{is_ascii_alphanumeric}
use Rattle.rst_inline_scan.proofs.words.word_end.Given as goal

abbrev pub invariant-loop-at : goal.invariant-loop-at
invariant-loop-at l = (k : ℕ) → l.place ≤ k → k < l.at → is_ascii_alphanumeric (get_or l.text k 0) ≡ true
