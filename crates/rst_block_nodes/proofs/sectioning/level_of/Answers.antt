use Rattle.std.proofs.Common.{arith, true, false}
use Rattle.rst_block_nodes.proofs.SectionLemmas.{level_at, level_after_last}
use Rattle.rst_block_nodes.proofs.sectioning.level_of.Goals as goal

pub returns-then-is : goal.returns-then-is
returns-then-is c = omega (arith, c.loop-place.invariant, level_at c.args.style c.args.styles.now c.loop-place.place _ c.is.result true (omega arith) c.is.ensures c.if-is.true)

pub loop-place-preserved : goal.loop-place-preserved
loop-place-preserved c = omega (arith, c.loop-place.invariant, level_at c.args.style c.args.styles.now c.loop-place.place _ c.is.result false (omega arith) c.is.ensures c.if-is.false)

pub returns : goal.returns
returns c = omega (arith, c.loop-place.invariant, level_after_last c.args.style c.args.styles.now c.loop-place.place (omega arith))
