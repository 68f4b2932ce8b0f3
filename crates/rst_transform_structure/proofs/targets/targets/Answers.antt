use Rattle.std.proofs.Common.{ap}
use Rattle.rst_transform_structure.specs.Targets.{Reached}
use Rattle.std.proofs.Common.{rules}
use Rattle.rst_transform_structure.proofs.Retargeting.{is_document, walk_makes}
use Rattle.rst_transform_structure.proofs.targets.targets.Goals as goal

pub of-requires : goal.of-requires
of-requires c = is_document c.args.document c.into_node.result c.in_ok-node.node c.of-walking.result c.into_node.ensures c.in_ok-node.ensures.node

pub returns : goal.returns
returns c =
    walk_makes c.args.unmarked c.args.document c.of.result c.into_node.result c.in_ok-node.node c.in_ok-takers.takers.items c.of-walking.result c.walk.new.visitor c.walking.inside.got.items c.args.context.now
    (record c.args.context.now { names = c.pass.new.names }) c.into_node.ensures c.of.ensures c.in_ok-takers.ensures c.of-walking.ensures c.in_ok-node.ensures.node c.in_ok-node.ensures.state (ap (λ (w : Reached). w.got) c.walking.view_is)
    c.pass.ensures (search rules)
