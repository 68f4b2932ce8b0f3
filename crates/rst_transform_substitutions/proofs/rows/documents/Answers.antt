use Rattle.std.proofs.Common.{refl}
use Rattle.rst_transform_substitutions.proofs.Computing.{rst_transform_substitutions}
use Rattle.rst_transform_substitutions.proofs.rows.documents.Goals as goal

pub returns : goal.returns
unfolding rst_transform_substitutions
returns c = record {
  replaced = refl;
  two = refl;
  in_a_definition = refl;
  undefined = refl;
  circular = refl;
  messages = refl;
}
