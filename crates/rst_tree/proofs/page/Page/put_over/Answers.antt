use Rattle.std.proofs.Common.{sym, ◌∙◌, ap, ◌++◌}
use Rattle.rst_tree.proofs.Sending.{◌▸◌, Sends-failed}
use Rattle.rst_tree.proofs.Pages.{Sends-gathered, Sends-written}
use Rattle.rst_tree.proofs.page.Page.put_over.Goals as goal

pub returns-then-self-bytes : goal.returns-then-self-bytes
returns-then-self-bytes g c =
    let going = sym c.failed.ensures ∙ c.if-failed.false in
    let empty = c.turn.ensures.1 going in
    c.turn.ensures.0
    ▸ Sends-written c.args.bytes.now _ _ _ _ _ c.write-count.result going (ap (λ l. l ++ c.args.bytes.now) empty) c.write-count.ensures (λ _. empty) c.saturating_add-self.ensures

pub returns-else-self-bytes : goal.returns-else-self-bytes
returns-else-self-bytes g c =
    c.turn.ensures.0 ▸ Sends-gathered c.args.bytes.now _ _ _ (sym c.failed.ensures ∙ c.if-failed.false) c.gather.ensures.page_bytes c.gather.ensures.taken

pub returns-then-failed : goal.returns-then-failed
returns-then-failed g c = c.turn.ensures.0 ▸ Sends-failed c.args.bytes.now _ _ (sym c.failed.ensures ∙ c.if-failed.true)
