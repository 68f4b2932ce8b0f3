use Rattle.rst_tree.specs.Forest.{height}
use Rattle.rst_tree_laws.proofs.AnyTexts.{Anything, any, any_suited}
use Rattle.rst_transform_laws.proofs.AnyDocuments.{document_any, known_any}
use Rattle.rst_transform_laws.proofs.TransformDocinfo.{docinfo_held}
use Rattle.rst_transform_laws.proofs.laws.docinfo_adds_little.Goals as goal

pub returns : goal.returns
returns c = λ parts document known. (docinfo_held any Anything any_suited parts (height document.children) document known (document_any document) (known_any known)).0.0.0
