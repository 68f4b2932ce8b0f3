-- The attributes of references are in order.
use Rattle.std.proofs.Common.{◌≡◌, true, refl}
use Rattle.rst_tree.specs.Attributes.{are_keys_in_order}
use Rattle.rst_text.specs.Characters.{Text}
use Rattle.rst_inline_scan.specs.declared.piece.Suffix.{Suffix}
use Rattle.rst_inline_scan.specs.declared.piece.Suffix.TheVariants.{Anonymous}
use Rattle.rst_inline.specs.Elements.{outer_attrs, reference_attrs}

pub outer_in_order : (suffix : Suffix) (source display_text : Text) → are_keys_in_order (outer_attrs suffix source display_text) ≡ true
outer_in_order Anonymous source display_text = refl
outer_in_order _ source display_text = refl

pub reference_in_order : (suffix : Suffix) (source display_text name : Text) → are_keys_in_order (reference_attrs suffix source display_text name) ≡ true
reference_in_order Anonymous source display_text name = refl
reference_in_order _ source display_text name = refl
