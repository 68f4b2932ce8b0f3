use Rattle.std.proofs.Common.{rules}
use Rattle.rst_tree.proofs.Folds.{read_after_last, read_whole}
use Rattle.rst_tree.proofs.reading.read_elements.Goals as goal

pub returns-in_default-pop : goal.returns-in_default-pop
returns-in_default-pop g c = read_whole g.R.Reader.takes c.args.level c.args.nodes.now c.args.reader.now c.rest.reader c.rest.at c.rest.rest.now c.rest.left.items c.in_default.ensures.cases (search rules) c.rest.invariant

pub rest-preserved-in_default : goal.rest-preserved-in_default
rest-preserved-in_default g c =
    read_after_last g.R.Reader.takes c.args.level c.args.nodes.now c.args.reader.now c.rest.reader c.rest.at c.rest.rest.now c.rest.left.items c.pop.new.self.items c.in-Some-pop.outer c.in_default.ensures.cases c.in-Some-pop.ensures.items c.rest.invariant
