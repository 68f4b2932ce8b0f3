use Rattle.std.proofs.Common.{arith}
use Rattle.rst_block_state.proofs.Spelling.{Copies-step, Copies-over, Copies-end}
use Rattle.rst_block_state.proofs.texts.characters.Goals as goal

pub loop-preserved : goal.loop-preserved
loop-preserved c = Copies-step _ _ _ _ _ _ _ _ _ _ c.loop.invariant c.in-Some.ensures.steps.0 (omega arith) c.in_ok-push-in-Some.ensures.bytes

pub returns-in-None : goal.returns-in-None
returns-in-None c = Copies-over _ _ _ _ _ _ c.loop.invariant c.in-None.ensures.steps.0.0

pub returns : goal.returns
returns c = Copies-end _ _ _ _ _ _ c.loop.invariant (omega arith)
