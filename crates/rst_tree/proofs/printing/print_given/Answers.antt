use Rattle.rst_tree.proofs.Pages.{printed, printed_calls}
use Rattle.rst_tree.proofs.printing.print_given.Goals as goal

pub returns-clause-prints : goal.returns-clause-prints
returns-clause-prints g c = printed _ c.args.out.now _ _ _ _ _ c.requires c.new-page.ensures.page_bytes c.new-page.ensures.taken c.put_node.ensures c.turn.ensures c.end.result (rw c.failed.ensures at c.end.ensures)

pub returns-clause-calls : goal.returns-clause-calls
returns-clause-calls g c = printed_calls _ c.args.out.now _ _ _ _ _ c.requires c.new-page.ensures.page_bytes c.new-page.ensures.taken c.put_node.ensures c.turn.ensures
