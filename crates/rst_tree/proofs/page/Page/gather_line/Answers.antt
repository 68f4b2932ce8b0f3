use Rattle.std.proofs.Common.{List, ℕ, ◌∙◌, ◌++◌, ◌*◌, ◌∷◌, [], ap, append_assoc, replicate, take}
use Rattle.rst_tree.specs.Sends.{page_bytes}
use Rattle.rst_tree.proofs.page.Page.gather_line.Goals as goal

pub returns-clause-page_bytes : goal.returns-clause-page_bytes
returns-clause-page_bytes g c =
    let before : List ℕ = page_bytes c.args.self.now in
    let indent : List ℕ = replicate (4 * c.args.level) 32 in
    let line : List ℕ = take c.place_line-len.result c.args.text.now in
    c.gather.ensures.page_bytes ∙ ap (λ l. l ++ (10 ∷ [])) (c.place_line-len.ensures.placed ∙ ap (λ l. l ++ line) c.gather_spaces.ensures.page_bytes ∙ append_assoc before indent line)
    ∙ append_assoc before (indent ++ line) (10 ∷ [])
