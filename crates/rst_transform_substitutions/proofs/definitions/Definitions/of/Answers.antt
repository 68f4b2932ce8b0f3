use Rattle.std.proofs.Common.{rules}
use Rattle.rst_transform_substitutions.proofs.Defining.{known_alike, known_next}
use Rattle.rst_transform_substitutions.proofs.definitions.Definitions.of.Goals as goal

pub loop-one-preserved : goal.loop-one-preserved
loop-one-preserved c = known_next _ c.loop-one.one-index c.one-item.result c.add.new.self c.loop-one-test.true (search rules) (c.in_ok-add.ensures _ c.loop-one.invariant)

pub returns-clause-known : goal.returns-clause-known
returns-clause-known c = known_alike _ _ _ c.loop-name.invariant c.in_ok-measure.ensures.alike
