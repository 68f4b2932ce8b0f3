use Rattle.std.proofs.Common.{◌≡◌}
use Rattle.rst_text.specs.Escapes.{is_escaped}
use Rattle.rst_inline.proofs.embedded.ends_with.Given as goal

abbrev pub invariant-loop-place : goal.invariant-loop-place
invariant-loop-place l = l.escaped ≡ is_escaped l.text 0 l.place
