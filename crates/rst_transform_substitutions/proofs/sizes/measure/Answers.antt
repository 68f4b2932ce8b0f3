use Rattle.std.proofs.Common.{rules, subst, sym}
use Rattle.rst_transform_substitutions.specs.Sizes.{AreMeasured}
use Rattle.rst_transform_substitutions.proofs.Measuring.{measured_more, none_measured}
use Rattle.rst_transform_substitutions.proofs.sizes.measure.Goals as goal

pub loop-place-init : goal.loop-place-init
loop-place-init c = record { alike = c.loop-done.invariant.alike; sized = none_measured c.loop-done.definitions c.loop-done.definitions.measured.items c.loop-done._done c.loop-done.invariant.none }

pub loop-place-preserved : goal.loop-place-preserved
loop-place-preserved c = record {
  alike = c.loop-place.invariant.alike;
  sized = subst (AreMeasured c.loop-place.definitions) (sym c.put_at.ensures) (measured_more c.loop-place.definitions c.loop-place.definitions.measured.items _ c.in_ok-one.one (search rules) c.in-Some.content.now c.loop-place.invariant.sized c.in-Some.ensures c.in_ok-one.ensures);
}
