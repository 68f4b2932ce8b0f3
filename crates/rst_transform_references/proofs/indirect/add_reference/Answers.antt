use Rattle.std.proofs.Common.{rules}
use Rattle.rst_transform_references.proofs.Grouping.{one_referred}
use Rattle.rst_transform_references.proofs.indirect.add_reference.Goals as goal

pub returns-in_ok-push : goal.returns-in_ok-push
returns-in_ok-push c =
    rw c.in-Some.is (one_referred c.args.lists.now.items c.in-Some.target c.args.place c.index_mut.result.now c.push.new.self (search rules) c.index_mut.ensures.value (search rules))
