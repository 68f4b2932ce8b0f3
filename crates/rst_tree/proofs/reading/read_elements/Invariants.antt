use Rattle.std.proofs.Common.{◌+◌}
use Rattle.std.specs.Prelude.{reverse}
use Rattle.rst_tree.specs.Nodes.{forest_of}
use Rattle.rst_tree.proofs.Folds.{left_weight, weight, Reading}
use Rattle.rst_tree.proofs.reading.read_elements.Given as goal

abbrev pub invariant-rest : goal.invariant-rest
invariant-rest g l = Reading g.R.Reader.takes l.fn.level l.fn.nodes l.initial.reader l.rest l.at l.left.items l.reader

abbrev pub decreases-rest : goal.decreases-rest
decreases-rest g l = weight (forest_of l.rest) + left_weight (reverse l.left.items)
