use Rattle.std.proofs.Common.{arith}
use Rattle.rst_text.proofs.Indenting.{Skips-step}
use Rattle.rst_text.proofs.text.skip.Goals as goal

pub loop-preserved : goal.loop-preserved
loop-preserved c = Skips-step _ _ _ _ _ _ _ c.loop.invariant c.in-Some.ensures.steps.0 (omega arith)
