use Rattle.rst2pseudoxml_run.proofs.FinishedTrees.{left_tree}
use Rattle.rst2pseudoxml_run.proofs.laws.printed_documents_are_trees.Goals as goal

pub returns : goal.returns
returns c = left_tree
