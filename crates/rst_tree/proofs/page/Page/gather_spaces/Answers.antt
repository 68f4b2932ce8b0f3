use Rattle.std.proofs.Common.{◌∙◌, ◌++◌, arith, ap}
use Rattle.std.proofs.lemmas.List.{take-replicate}
use Rattle.rst_tree.proofs.Pages.{take-placed}
use Rattle.rst_tree.specs.Sends.{page_bytes}
use Rattle.rst_tree.proofs.page.Page.gather_spaces.Goals as goal

pub returns-clause-page_bytes : goal.returns-clause-page_bytes
returns-clause-page_bytes g c =
    let page = c.args.self.now in
    rw c.copy_from_slice.ensures.after
    (take-placed page.len _ c.args.count page.bytes _ (omega arith) (omega arith) ∙ ap (λ l. page_bytes page ++ l) (take-replicate c.args.count 64 32 (omega arith)))
