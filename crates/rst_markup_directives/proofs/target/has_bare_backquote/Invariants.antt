use Rattle.std.proofs.Common.{◌≡◌}
use Rattle.rst_text.specs.Places.{NoneFrom}
use Rattle.rst_text.specs.Escapes.{is_escaped}
use Rattle.rst_markup_directives.specs.Escapes.{is_bare_backquote}
use Rattle.rst_markup_directives.proofs.target.has_bare_backquote.Given as goal

abbrev pub invariant-loop-c : goal.invariant-loop-c
invariant-loop-c l = record { escaped : l.escaped ≡ is_escaped l.text 0 l.c-index; none : NoneFrom (is_bare_backquote l.text) 0 l.c-index }
