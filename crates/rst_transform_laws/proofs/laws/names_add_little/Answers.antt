use Rattle.rst_tree_laws.proofs.AnyTexts.{Anything, any, any_suited}
use Rattle.rst_transform_laws.proofs.TransformNames.{names_fit, names_low}
use Rattle.rst_transform_laws.proofs.laws.names_add_little.Goals as goal

pub returns : goal.returns
returns c = record {
  levels = names_low;
  replaced = λ h messages document. (names_fit any Anything any_suited h messages document).0;
  flat = λ h messages document. (names_fit any Anything any_suited h messages document).1;
}
