use Rattle.std.proofs.Common.{◌≡◌, ◌++◌, drop}
use Rattle.rst_text.specs.Escapes.{unescaped}
use Rattle.rst_text.proofs.EscapeLemmas.{unescaped_from}
use Rattle.rst_text.proofs.escaping.unescaped.Given as goal

abbrev pub invariant-loop-letter : goal.invariant-loop-letter
invariant-loop-letter l = l.out.items ++ unescaped_from l.escaped (drop l.letter-index l.text) ≡ unescaped l.text
