use Rattle.std.proofs.Common.{◌≡◌, ◌+◌, ◌≤◌, drop}
use Rattle.rst_text.specs.Block.{indentation}
use Rattle.rst_markup_directives.proofs.characters.spaces.Given as goal

abbrev pub invariant-loop-c : goal.invariant-loop-c
invariant-loop-c l = record { value : l.n + indentation (drop l.c-index l.text) ≡ indentation l.text; within : l.n ≤ l.c-index }
