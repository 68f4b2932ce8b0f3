-- `unfolding rst2pseudoxml_run` lets `refl` compute what the definitions give for a text that is written out. scripts/computing.py writes this file.

unfoldable pub rst2pseudoxml_run : Unit {0}
unfolding
    lib.Utf8.encode Rattle.std.specs.Fmt.digits Rattle.std.specs.Str.chars Rattle.std.specs.Str.is_utf8 Rattle.std.specs.Str.Lossy.utf8_valid_len
    Rattle.rst_inline_scan.proofs.Computing.rst_inline_scan Rattle.rst_inline.proofs.Computing.rst_inline Rattle.rst_text.proofs.Computing.rst_text
    Rattle.rst_tree.proofs.Computing.rst_tree Rattle.rst_json.proofs.Computing.rst_json Rattle.rst_markup_lines.proofs.Computing.rst_markup_lines
    Rattle.rst_markup_blocks.proofs.Computing.rst_markup_blocks Rattle.rst_markup_directives.proofs.Computing.rst_markup_directives
    Rattle.rst_markup_tables.proofs.Computing.rst_markup_tables Rattle.rst_block_nodes.proofs.Computing.rst_block_nodes
    Rattle.rst_block_state.proofs.Computing.rst_block_state Rattle.rst_transform.proofs.Computing.rst_transform
    Rattle.rst2pseudoxml_options.proofs.Computing.rst2pseudoxml_options Rattle.rst_transform_work.proofs.Computing.rst_transform_work
    Rattle.rst_transform_substitutions.proofs.Computing.rst_transform_substitutions
    Rattle.rst_transform_references.proofs.Computing.rst_transform_references Rattle.rst_transform_structure.proofs.Computing.rst_transform_structure
    Rattle.rst_transform_docinfo.proofs.Computing.rst_transform_docinfo Rattle.rst_transform_contents.proofs.Computing.rst_transform_contents
    Rattle.rst_transform_messages.proofs.Computing.rst_transform_messages Rattle.rst_transform_names.proofs.Computing.rst_transform_names
    Rattle.rst2pseudoxml_run.specs.CodeCalls.begins_call Rattle.rst2pseudoxml_run.specs.CodeCalls.begins_code
rst2pseudoxml_run = tt
