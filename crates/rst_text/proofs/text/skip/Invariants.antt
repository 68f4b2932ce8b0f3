use Rattle.std.proofs.Common.{◌-◌}
use Rattle.rst_text.proofs.Indenting.{Skips}
use Rattle.rst_text.proofs.text.skip.Given as goal

abbrev pub invariant-loop : goal.invariant-loop
invariant-loop l = Skips l.text l.rest.rest.now (l.n - l.counter) l.n
