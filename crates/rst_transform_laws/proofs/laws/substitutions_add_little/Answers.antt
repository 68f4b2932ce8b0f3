use Rattle.std.proofs.Common.{arith}
use Rattle.rst_transform_laws.proofs.TransformLow.{levels_low}
use Rattle.rst_transform_laws.proofs.TransformSubstitutions.{substitutions_low}
use Rattle.rst_transform_laws.proofs.laws.substitutions_add_little.Goals as goal

pub returns : goal.returns
returns c = record {
  replaced = λ h document known some flat. substitutions_low h some document known flat;
  levels = λ h document known some flat. omega (arith, substitutions_low h some document known flat, (levels_low h document.children).1);
}
