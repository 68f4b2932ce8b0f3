use Rattle.std.proofs.Common.{◌≡◌, replicate}
use Rattle.std.specs.Prelude.{None}
use Rattle.rst_transform_substitutions.specs.Definitions.{AreAlike}
use Rattle.rst_transform_substitutions.specs.Sizes.{AreSized}
use Rattle.rst_transform_substitutions.proofs.sizes.measure.Given as goal

abbrev pub invariant-loop-done : goal.invariant-loop-done
invariant-loop-done l = record {
  alike : AreAlike l.fn.definitions l.definitions;
  none : l.definitions.measured.items ≡ replicate l._done None;
}

abbrev pub invariant-loop-place : goal.invariant-loop-place
invariant-loop-place l = record {
  alike : AreAlike l.fn.definitions l.definitions;
  sized : AreSized l.definitions;
}
