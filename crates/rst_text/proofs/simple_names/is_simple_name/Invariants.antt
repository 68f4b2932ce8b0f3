use Rattle.std.proofs.Common.{◌≡◌, ℕ, ◌<◌, true}
use Rattle.rst_text.specs.SimpleNames.{is_name_at}
use Rattle.rst_text.proofs.simple_names.is_simple_name.Given as goal

abbrev pub invariant-loop-place : goal.invariant-loop-place
invariant-loop-place l = (k : ℕ) → k < l.place → is_name_at l.text k ≡ true
