use Rattle.std.proofs.Common.{arith}
use Rattle.rst_transform_structure.proofs.Titles.{Moves-more}
use Rattle.rst_transform_structure.proofs.title.move_names.Goals as goal

pub loop-name-preserved : goal.loop-name-preserved
loop-name-preserved c =
    Moves-more c.args.own_names.now c.loop-name.name-index c.name-item.result c.as_str.result.now c.args.names.now c.loop-name.names c.move_to.new.self (omega arith) c.name-item.is c.as_str.ensures c.loop-name.invariant
    c.move_to.ensures
