use Rattle.std.proofs.Common.{◌≡◌, ℕ, ◌<◌, ◌≤◌, true}
use Rattle.rst_inline_scan.specs.Registered.{is_uric_at}
use Rattle.rst_inline_scan.proofs.registered.uric_stop.Given as goal

abbrev pub invariant-loop-place : goal.invariant-loop-place
invariant-loop-place l = (k : ℕ) → l.start ≤ k → k < l.place → is_uric_at l.text k ≡ true
