use Rattle.std.proofs.Common.{◌≡◌}
use Rattle.rst_text.specs.Places.{IsLast}
use Rattle.rst_text.specs.Escapes.{is_escaped}
use Rattle.rst_inline.specs.Embedded.{opens_angle}
use Rattle.rst_inline.proofs.embedded.last_angle.Given as goal

abbrev pub invariant-loop-place : goal.invariant-loop-place
invariant-loop-place l = record {
  escaped : l.escaped ≡ is_escaped l.text 0 l.place;
  last : IsLast (opens_angle l.text) 0 l.place l.found;
}
