-- `unfolding rst_block_nodes` lets `refl` compute what the definitions give for a text that is written out. scripts/computing.py writes this file.

unfoldable pub rst_block_nodes : Unit {0}
unfolding
    lib.Utf8.encode Rattle.std.specs.Fmt.digits Rattle.rst_text.proofs.Computing.rst_text Rattle.rst_tree.proofs.Computing.rst_tree
    Rattle.rst_markup_lines.proofs.Computing.rst_markup_lines Rattle.rst_inline_scan.proofs.Computing.rst_inline_scan
    Rattle.rst_inline.proofs.Computing.rst_inline Rattle.rst_markup_blocks.proofs.Computing.rst_markup_blocks
    Rattle.rst_markup_directives.proofs.Computing.rst_markup_directives Rattle.rst_block_nodes.specs.OpenSections.close
    Rattle.rst_block_nodes.specs.Sections.level_of Rattle.rst_block_nodes.specs.Sections.judged Rattle.rst_block_nodes.specs.Sections.inside_section
    Rattle.rst_block_nodes.specs.Sections.after_section Rattle.rst_block_nodes.specs.Sections.members Rattle.rst_block_nodes.specs.Sections.items_of
rst_block_nodes = tt
