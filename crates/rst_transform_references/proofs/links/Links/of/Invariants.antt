use Rattle.std.proofs.Common.{◌≡◌, replicate}
use Rattle.std.specs.Prelude.{None}
use Rattle.rst_transform_references.specs.declared.links.Change.TheVariants.{Stays}
use Rattle.rst_transform_references.proofs.links.Links.of.Given as goal

abbrev pub invariant-loop : goal.invariant-loop
invariant-loop l = l.changes.items ≡ replicate l.counter (Stays None None)
