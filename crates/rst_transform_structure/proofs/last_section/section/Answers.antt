use Rattle.std.proofs.Common.{rules}
use Rattle.rst_transform_structure.proofs.LastNodes.{one_more}
use Rattle.rst_transform_structure.proofs.last_section.section.Goals as goal

pub loop-i-preserved : goal.loop-i-preserved
loop-i-preserved c =
    let more =
    one_more c.args.reports.now.items c.loop-i.reports.items c.loop-i.children c.add_own.new.nodes c.loop-i.i c.index_mut.result.now c.add_own.new.report c.loop-i.invariant.reports c.loop-i.invariant.nodes (search rules)
    (search rules) (search rules) (search rules) in
    record { nodes = more.0; reports = more.1 }
