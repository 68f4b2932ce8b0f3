use Rattle.rst_text.proofs.LongLines.{Measures}
use Rattle.rst_text.proofs.lines.is_longer.Given as goal

abbrev pub invariant-loop-c : goal.invariant-loop-c
invariant-loop-c l = Measures l.limit l.tab l.column l.piece l.c-iterator.rest.now
