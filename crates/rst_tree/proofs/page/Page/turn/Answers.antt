use Rattle.std.proofs.Common.{refl, sym, ◌∙◌, append-nil, true≢false}
use Rattle.rst_tree.specs.Sends.{page_bytes}
use Rattle.rst_tree.proofs.Sending.{Sends-failed}
use Rattle.rst_tree.proofs.Pages.{Sends-written}
use Rattle.rst_tree.proofs.page.Page.turn.Goals as goal

pub returns-then-failed : goal.returns-then-failed
returns-then-failed g c =
    let failed = sym c.failed.ensures ∙ c.if-failed.true in
    (Sends-failed _ _ _ failed, λ going. absurd (true≢false (sym failed ∙ going)))

pub returns : goal.returns
returns g c =
    let page = c.args.self.now in (
      Sends-written _ (page_bytes page) _ _ page _ c.write-count.result (sym c.failed.ensures ∙ c.if-failed.false) (append-nil (page_bytes page)) c.write-count.ensures (λ _. refl) c.saturating_add-self.ensures,
      λ _. refl,
    )
