use Rattle.std.proofs.Common.{List, ℕ, sym, ◌∙◌, ◌++◌, ◌*◌, ap, append_assoc, replicate}
use Rattle.rst_tree.specs.Sends.{page_bytes}
use Rattle.rst_tree.proofs.Pages.{Sends-gathered}
use Rattle.rst_tree.proofs.output.put_indented.Goals as goal

pub returns-then-not-failed : goal.returns-then-not-failed
returns-then-not-failed g c =
    let before : List ℕ = page_bytes c.args.page.now in
    let indent : List ℕ = replicate (4 * c.args.level) 32 in
    let first = c.args.first.now in
    let second = c.args.second.now in
    let third = c.args.third.now in
    Sends-gathered _ _ _ _ (sym c.failed.ensures ∙ c.if-not-failed.true)
    (c.gather_indented.ensures.page_bytes ∙ ap (λ l. (l ++ second) ++ third) (append_assoc before indent first) ∙ ap (λ l. l ++ third) (append_assoc before (indent ++ first) second)
    ∙ append_assoc before ((indent ++ first) ++ second) third)
    c.gather_indented.ensures.taken
