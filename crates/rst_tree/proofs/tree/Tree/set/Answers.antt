use Rattle.rst_tree.proofs.Fitting.{set_tree}
use Rattle.rst_tree.proofs.tree.Tree.set.Goals as goal

pub invariant_of-self-2 : goal.invariant_of-self-2
invariant_of-self-2 c = set_tree c.args.at.now c.args.name c.args.value c.self.inside.root c.set_at.new.self c.self.invariant c.in_ok-set_at.ensures
