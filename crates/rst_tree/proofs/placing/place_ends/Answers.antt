use Rattle.std.proofs.Common.{◌-◌, arith, length}
use Rattle.std.proofs.lemmas.List.{take_rest}
use Rattle.rst_tree.proofs.Overlaid.{placed-ends}
use Rattle.rst_tree.proofs.placing.place_ends.Goals as goal

pub returns-clause-placed : goal.returns-clause-placed
returns-clause-placed g c =
    let text = c.args.text.now in
    placed-ends c.args.all.now _ _ text c.args.at g.row.N (omega arith) c.requires.covers.0 c.requires.covers.1 c.place_first.ensures.placed
    (rw (take_rest text (length text - g.row.N)) at c.place_first-2.ensures.placed)
