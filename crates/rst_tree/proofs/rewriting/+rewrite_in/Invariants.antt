use Rattle.rst_tree.specs.Forest.{height}
use Rattle.rst_tree.proofs.Rewrites.{Turning}
use Rattle.rst_tree.proofs.rewriting.+rewrite_in.Given as goal

abbrev pub decreases-rewrite_in : goal.decreases-rewrite_in
decreases-rewrite_in g l = height l.nodes.now

abbrev pub invariant-loop-i : goal.invariant-loop-i
invariant-loop-i g l = Turning g.R.Rewriter.entered g.R.Rewriter.becomes l.initial.nodes l.initial.rewriter l.nodes l.rewriter l.i
