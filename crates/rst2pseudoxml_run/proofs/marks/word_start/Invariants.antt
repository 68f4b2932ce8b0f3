use Rattle.std.proofs.Common.{◌≡◌, ℕ, ◌+◌, ◌≤◌, Bool, not, length, take}
use Rattle.std.specs.Char.{is_ascii_whitespace}
use Rattle.std.specs.List.{suffix_len}
use Rattle.rst2pseudoxml_run.proofs.marks.word_start.Given as goal

-- all from the place on are dark
abbrev pub invariant-loop-start : goal.invariant-loop-start
invariant-loop-start l =
    let dark : ℕ → Bool = λ b. not (is_ascii_whitespace b) in
    (l.start ≤ length l.text) × (l.start + suffix_len dark l.text ≡ length l.text + suffix_len dark (take l.start l.text))

abbrev pub decreases-loop-start : goal.decreases-loop-start
decreases-loop-start l = l.start
