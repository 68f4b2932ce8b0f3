use Rattle.rst_transform.proofs.TransformFinishing.{finished_tree}
use Rattle.rst_transform.proofs.laws.finished_documents_are_trees.Goals as goal

pub returns : goal.returns
returns c = finished_tree
