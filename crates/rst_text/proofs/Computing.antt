-- `unfolding rst_text` lets `refl` compute what the definitions give for a text that is written out. scripts/computing.py writes this file.

unfoldable pub rst_text : Unit {0}
unfolding
    lib.Utf8.encode Rattle.std.specs.Fmt.digits Rattle.ucd_case.proofs.Computing.ucd_case Rattle.ucd_category.proofs.Computing.ucd_category
    Rattle.unicode_width.proofs.Computing.unicode_width Rattle.unicode_normalization.proofs.Computing.unicode_normalization
    Rattle.rst_text.specs.Characters.is_white Rattle.rst_text.specs.Characters.is_letter Rattle.rst_text.specs.Characters.is_alphanumeric
    Rattle.rst_text.specs.Characters.columns Rattle.rst_text.specs.Escapes.is_escaped Rattle.rst_text.specs.Extent.extent
    Rattle.rst_text.specs.Extent.least_indent Rattle.rst_text.specs.Lines.expanded Rattle.rst_text.specs.Lines.is_line_text
    Rattle.rst_text.specs.Names.normalized_white Rattle.rst_text.specs.Names.name_of Rattle.rst_text.specs.Names.is_id_char
    Rattle.rst_text.specs.Names.is_no_start Rattle.rst_text.specs.Names.identifier_of Rattle.rst_text.specs.Names.id_of
    Rattle.rst_text.specs.Reach.looked Rattle.rst_text.specs.Reach.blank_len Rattle.rst_text.specs.Reach.through_text
    Rattle.rst_text.specs.SimpleNames.is_joint Rattle.rst_text.specs.SimpleNames.is_name_at Rattle.rst_text.specs.SimpleNames.is_simple_name
    Rattle.rst_text.specs.SimpleNames.name_stop Rattle.rst_text.specs.SimpleNames.simple_name Rattle.rst_text.specs.ViewBlock.block_of
    Rattle.rst_text.specs.ViewBlock.placement_block
rst_text = tt
