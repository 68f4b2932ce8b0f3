use Rattle.std.proofs.Common.{List, ℕ, ◌++◌, ◌*◌, ◌∷◌, [], ◌∙◌, ap, sym, append-nil, append_assoc, replicate, codes}
use Rattle.rst_tree.specs.Print.{start_tag}
use Rattle.rst_tree.specs.PrintedAttributes.{given_source}
use Rattle.rst_tree.proofs.PrintedParts.{tag_line}
use Rattle.rst_tree.proofs.Sending.{Sends-as}
use Rattle.rst_tree.proofs.output.put_tag.Goals as goal

pub returns-then-is_bare : goal.returns-then-is_bare
returns-then-is_bare g c =
    let indent : List ℕ = replicate (4 * c.args.level) 32 in
    let name : List ℕ = c.as_bytes.result.now in
    let none = c.is_bare.ensures c.if-is_bare.true (given_source c.args.source) c.args.line in
    Sends-as c.put_indented.ensures
    (ap (λ l. l ++ codes ">\n") (sym (append-nil ((indent ++ codes "<") ++ name)))
    ∙ tag_line c.args.level c.args.tag [] name (c.as_bytes.ensures.value ∙ c.name.ensures)
    ∙ sym (append_assoc indent (start_tag c.args.tag []) (10 ∷ []))
    ∙ ap (λ a. (indent ++ start_tag c.args.tag a) ++ (10 ∷ [])) (sym none))
