use Rattle.std.proofs.Common.{◌≡◌, ◌++◌, false, drop}
use Rattle.rst_block_nodes.specs.Terms.{letters_from}
use Rattle.rst_block_nodes.proofs.terms.letters_of.Given as goal

abbrev pub invariant-loop-c : goal.invariant-loop-c
invariant-loop-c l = l.letters.items ++ letters_from l.escaped (drop l.c-index l.text) ≡ letters_from false l.text
