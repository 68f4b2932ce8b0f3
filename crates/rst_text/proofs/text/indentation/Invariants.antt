use Rattle.rst_text.proofs.Indenting.{Counts}
use Rattle.rst_text.proofs.text.indentation.Given as goal

abbrev pub invariant-loop-c : goal.invariant-loop-c
invariant-loop-c l = Counts l.text l.c-iterator.rest.now l.n
