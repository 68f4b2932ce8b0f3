use Rattle.std.proofs.Common.{arith}
use Rattle.rst_transform.proofs.TransformFinishing.{finishing_low}
use Rattle.rst_transform.proofs.laws.finishing_adds_little.Goals as goal

pub returns : goal.returns
returns c = record { levels = finishing_low; tree = λ messages profile settings document flat few. omega (arith, finishing_low messages profile settings document flat) }
