use Rattle.std.proofs.Common.{◌≡◌, ℕ, ◌<◌, ◌≤◌, true}
use Rattle.rst_inline_scan.specs.Mail.{is_in_user}
use Rattle.rst_inline_scan.proofs.mail.user_stop.Given as goal

abbrev pub invariant-loop-place : goal.invariant-loop-place
invariant-loop-place l = (k : ℕ) → l.start ≤ k → k < l.place → is_in_user l.text k ≡ true
