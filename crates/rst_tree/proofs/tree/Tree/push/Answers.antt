use Rattle.std.proofs.Common.{ap, ◌∙◌}
use Rattle.rst_tree.specs.Tree.{fits}
use Rattle.rst_tree.proofs.Fitting.{fitted_tree}
use Rattle.rst_tree.proofs.tree.Tree.push.Goals as goal

pub invariant_of-self-2 : goal.invariant_of-self-2
invariant_of-self-2 c = fitted_tree c.args.at.now c.args.node c.self.inside.root c.push_at.new.self (ap (fits c.args.at.now c.args.node) c.self.view_is ∙ c.requires) c.in_ok-push_at.ensures
