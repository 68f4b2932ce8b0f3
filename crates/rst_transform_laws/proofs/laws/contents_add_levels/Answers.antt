use Rattle.rst_tree.specs.Forest.{height}
use Rattle.rst_tree_laws.proofs.AnyTexts.{Anything, any, any_suited}
use Rattle.rst_transform_laws.proofs.AnyDocuments.{document_any, known_any}
use Rattle.rst_transform_laws.proofs.TransformContents.{contents_held}
use Rattle.rst_transform_laws.proofs.laws.contents_add_levels.Goals as goal

pub returns : goal.returns
returns c = λ document known. (contents_held any Anything any_suited (height document.children) document known (document_any document) (known_any known)).0.0.0
