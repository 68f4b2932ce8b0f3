use Rattle.std.proofs.Common.{arith}
use Rattle.rst_text.proofs.kept.Kept.empty_end.Goals as goal

pub loop-step-init : goal.loop-step-init
loop-step-init c = (record { above = omega arith; within = omega arith; empty = λ k low high. absurd (omega arith) }, omega arith)
