use Rattle.std.proofs.Common.{◌≡◌, ℕ, ◌<◌, ◌≤◌, true}
use Rattle.rst_text.specs.SimpleNames.{is_name_at}
use Rattle.rst_text.proofs.simple_names.name_stop.Given as goal

abbrev pub invariant-loop-place : goal.invariant-loop-place
invariant-loop-place l = (k : ℕ) → l.start ≤ k → k < l.place → is_name_at l.text k ≡ true
