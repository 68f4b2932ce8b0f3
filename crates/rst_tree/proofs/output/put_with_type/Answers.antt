use Rattle.rst_tree.specs.Print.{attribute_text}
use Rattle.rst_tree.specs.declared.key.Key.TheVariants.{Type_}
use Rattle.rst_tree.proofs.Sending.{◌▸◌, Sends-as}
use Rattle.rst_tree.proofs.PrintedAttributeParts.{parted, made_of_parts}
use Rattle.rst_tree.proofs.output.put_with_type.Goals as goal

pub returns-in-Some : goal.returns-in-Some
returns-in-Some g c =
    Sends-as (c.put_before-rest.ensures.sent ▸ c.put_text_attr.ensures ▸ c.put_attrs-in-Some.ensures)
    (rw (c.put_before-rest.ensures.rest, c.in-Some.is, c.name.ensures, c.of_number.ensures)
    (made_of_parts attribute_text _ _ _ _ (parted Type_ _ c.args.attrs.now)))
