use Rattle.std.proofs.Common.{List, ℕ, ◌++◌, ◌*◌, ◌∷◌, [], ◌∙◌, ap, sym, append-nil, append_assoc, replicate, codes}
use Rattle.std.specs.List.{flat_map}
use Rattle.rst_tree.specs.declared.attrs.Attr.{Attr}
use Rattle.rst_tree.specs.Print.{attribute_text, start_tag}
use Rattle.rst_tree.specs.PrintedAttributes.{given_source, printed_attrs}
use Rattle.rst_tree.proofs.PrintedParts.{tag_line}
use Rattle.rst_tree.proofs.Sending.{◌▸◌, Sends-as}
use Rattle.rst_tree.proofs.output.put_tag_with_attrs.Goals as goal

pub returns : goal.returns
returns g c =
    let indent : List ℕ = replicate (4 * c.args.level) 32 in
    let name : List ℕ = c.as_bytes.result.now in
    let attrs : List Attr = printed_attrs (given_source c.args.source) c.args.tag c.args.attrs.now c.args.line in
    Sends-as (c.put_indented.ensures ▸ c.put_printed_attrs.ensures ▸ c.put.ensures)
    (ap (λ l. (l ++ flat_map attribute_text attrs) ++ codes ">\n") (append-nil ((indent ++ codes "<") ++ name))
    ∙ tag_line c.args.level c.args.tag attrs name (c.as_bytes.ensures.value ∙ c.name.ensures)
    ∙ sym (append_assoc indent (start_tag c.args.tag attrs) (10 ∷ [])))
