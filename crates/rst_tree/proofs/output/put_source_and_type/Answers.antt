use Rattle.std.proofs.Common.{refl}
use Rattle.rst_tree.specs.declared.attrs.Value.TheVariants.{Text as Words}
use Rattle.rst_tree.specs.declared.key.Key.TheVariants.{Source}
use Rattle.rst_tree.specs.Print.{attribute_text}
use Rattle.rst_tree.proofs.Sending.{◌▸◌, Sends-as}
use Rattle.rst_tree.proofs.PrintedAttributeParts.{type_after, made_of_parts}
use Rattle.rst_tree.proofs.output.put_source_and_type.Goals as goal

pub returns-in-Some : goal.returns-in-Some
returns-in-Some g c =
    Sends-as (c.put_before-rest.ensures.sent ▸ c.put_text_attr.ensures ▸ c.put_with_type-in-Some.ensures)
    (rw (c.put_before-rest.ensures.rest, c.in-Some.is)
    (made_of_parts attribute_text _ _ _ _ (type_after Source (Words _) c.args.level c.args.attrs.now refl)))
