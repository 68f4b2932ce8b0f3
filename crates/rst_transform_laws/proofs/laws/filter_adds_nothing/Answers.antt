use Rattle.rst_tree.specs.Forest.{height}
use Rattle.rst_tree_laws.proofs.AnyTexts.{Anything, any, any_suited}
use Rattle.rst_transform_laws.proofs.AnyDocuments.{document_any}
use Rattle.rst_transform_laws.proofs.TransformMessages.{filtered_held}
use Rattle.rst_transform_laws.proofs.laws.filter_adds_nothing.Goals as goal

pub returns : goal.returns
returns c report reported document = (filtered_held any Anything any_suited (height document.children) report reported document.children (document_any document).0).0
