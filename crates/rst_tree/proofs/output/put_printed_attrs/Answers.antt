use Rattle.std.proofs.Common.{◌≡◌, ℕ, List, Option, refl, ap, ◌∙◌}
use Rattle.std.specs.List.{flat_map}
use Rattle.rst_tree.specs.declared.attrs.Value.TheVariants.{Number}
use Rattle.rst_tree.specs.declared.tag.Tag.{Tag}
use Rattle.rst_tree.specs.declared.tag.Tag.TheVariants.{Document, SystemMessage}
use Rattle.rst_tree.specs.declared.key.Key.TheVariants.{Line}
use Rattle.rst_tree.specs.declared.attrs.Attr.{Attr}
use Rattle.rst_tree.specs.Attributes.{attr}
use Rattle.rst_tree.specs.Print.{attribute_text}
use Rattle.rst_tree.specs.PrintedAttributes.{given_source, printed_attrs}
use Rattle.rst_tree.proofs.Sending.{◌▸◌, Sends-as}
use Rattle.rst_tree.proofs.PrintedAttributeParts.{source_and_type_after, made_of_parts}
use Rattle.rst_tree.proofs.output.put_printed_attrs.Goals as goal

pub returns-in-SystemMessage : goal.returns-in-SystemMessage
returns-in-SystemMessage g c =
    Sends-as (c.put_before-rest.ensures.sent ▸ Sends-as {y = attribute_text (attr Line (Number c.args.line))} (c.put.ensures ▸ c.put_number.ensures ▸ c.put-in-SystemMessage.ensures) (simp (c.as_bytes.ensures.value, c.opening.ensures)) ▸ c.put_source_and_type-in-SystemMessage.ensures)
    (rw (c.put_before-rest.ensures.rest, c.number-level.ensures, c.as_slice-in-SystemMessage.ensures, c.in-SystemMessage.is)
    (made_of_parts attribute_text _ _ _ _ (source_and_type_after Line (Number c.args.line) (given_source c.args.source) _ c.args.attrs.now refl refl)))

-- another element is printed with its own attributes
own : (source : Option (List ℕ)) (t : Tag) (attrs : List Attr) (line : ℕ) → (t ≡ Document → ⊥) → (t ≡ SystemMessage → ⊥) → attrs ≡ printed_attrs source t attrs line
own source Document attrs line d m = absurd (d refl)
own source SystemMessage attrs line d m = absurd (m refl)
own source _ attrs line d m = refl

pub returns-in_default : goal.returns-in_default
returns-in_default g c =
    Sends-as c.put_attrs.ensures (ap (flat_map attribute_text) (c.as_slice-in_default.ensures ∙ own (given_source c.args.source) c.args.tag c.args.attrs.now c.args.line c.in_default.not-Document c.in_default.not-SystemMessage))
