use Rattle.std.proofs.Common.{◌≡◌}
use Rattle.rst_text.specs.Escapes.{is_escaped}
use Rattle.rst_markup_directives.proofs.target.ends_escaping.Given as goal

abbrev pub invariant-loop-c : goal.invariant-loop-c
invariant-loop-c l = l.escaped ≡ is_escaped l.text 0 l.c-index
