use Rattle.std.proofs.Common.{rules}
use Rattle.rst_transform_references.proofs.Numbers.{over}
use Rattle.rst_transform_references.proofs.footnotes.leave_over.Goals as goal

pub returns : goal.returns
returns c =
    over c.args.order c.args.footnotes c.args.left.now c.in-Some.first.now c.line_of-line.result c.new.result c.args.links.now c.fail_for.new.links c.args.context.now c.fail_for.new.context (search rules) (search rules) (search rules)
    c.in_ok-fail_for.ensures
