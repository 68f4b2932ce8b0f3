use Rattle.rst_text.proofs.Indenting.{Counts-step, Counts-over, Counts-end}
use Rattle.rst_text.proofs.text.indentation.Goals as goal

pub loop-c-preserved : goal.loop-c-preserved
loop-c-preserved c = Counts-step _ _ _ _ _ c.loop-c.invariant c.in-Some.ensures.steps.0 c.if-c-ne32.false

pub returns-in-None-clause-value : goal.returns-in-None-clause-value
returns-in-None-clause-value c = Counts-end _ _ _ c.loop-c.invariant c.in-None.ensures.steps.0.0

pub returns-then-c-ne32-clause-value : goal.returns-then-c-ne32-clause-value
returns-then-c-ne32-clause-value c = Counts-over _ _ _ _ _ c.loop-c.invariant c.in-Some.ensures.steps.0 c.if-c-ne32.true
