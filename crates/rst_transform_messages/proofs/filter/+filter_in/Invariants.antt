use Rattle.rst_tree.specs.Forest.{height}
use Rattle.rst_transform_messages.proofs.Showing.{Sifting}
use Rattle.rst_transform_messages.specs.Messages.{is_number_marked}
use Rattle.rst_transform_messages.proofs.filter.+filter_in.Given as goal

abbrev pub decreases-filter_in : goal.decreases-filter_in
decreases-filter_in l = height l.nodes.now

abbrev pub invariant-loop-i : goal.invariant-loop-i
invariant-loop-i l = Sifting l.report (is_number_marked l.reported) l.initial.nodes l.nodes l.leaves l.i
