use Rattle.std.proofs.Common.{sym, ◌∙◌}
use Rattle.rst_tree.proofs.Sending.{Sends-failed}
use Rattle.rst_tree.proofs.Pages.{Sends-gathered}
use Rattle.rst_tree.proofs.page.Page.put.Goals as goal

pub returns-then-failed : goal.returns-then-failed
returns-then-failed g c = Sends-failed _ _ _ (sym c.failed.ensures ∙ c.if-failed.true)

pub returns-else-self-bytes : goal.returns-else-self-bytes
returns-else-self-bytes g c = Sends-gathered c.args.bytes.now _ _ _ (sym c.failed.ensures ∙ c.if-failed.false) c.gather.ensures.page_bytes c.gather.ensures.taken
