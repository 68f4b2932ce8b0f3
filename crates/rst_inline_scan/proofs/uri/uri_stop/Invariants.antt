use Rattle.std.proofs.Common.{◌≡◌, ℕ, ◌<◌, ◌≤◌, true, get_or}
use Rattle.rst_inline_scan.specs.Uri.{is_uri_char}
use Rattle.rst_inline_scan.proofs.uri.uri_stop.Given as goal

abbrev pub invariant-loop-place : goal.invariant-loop-place
invariant-loop-place l = (k : ℕ) → l.start ≤ k → k < l.place → is_uri_char (get_or l.text k 0) ≡ true
