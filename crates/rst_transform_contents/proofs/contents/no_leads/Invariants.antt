use Rattle.std.proofs.Common.{◌≡◌, replicate}
use Rattle.std.specs.Prelude.{None}
use Rattle.rst_transform_contents.proofs.contents.no_leads.Given as goal

abbrev pub invariant-loop : goal.invariant-loop
invariant-loop l = l.leads.items ≡ replicate l.counter None
