use Rattle.std.proofs.Common.{rules}
use Rattle.rst_tree.specs.Nodes.{forest_of, nodes_of}
use Rattle.rst_transform_work.proofs.Holding.{makes_reports}
use Rattle.rst_transform_docinfo.specs.Docinfo.{leading_list, nodes_with_docinfo}
use Rattle.rst_transform_docinfo.proofs.docinfo.docinfo.Goals as goal

pub returns : goal.returns
returns c =
    let nodes = nodes_of c.args.document.children in
    makes_reports (λ first reports. (record c.args.document { children = forest_of (nodes_with_docinfo c.args.parts first reports (leading_list nodes) nodes).0 }, (nodes_with_docinfo c.args.parts first reports (leading_list nodes) nodes).1)) c.args.context.now
    c.with_bibliography.new.context _ (search rules) (search rules) (search rules)
