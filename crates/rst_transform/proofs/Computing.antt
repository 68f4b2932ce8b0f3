-- `unfolding rst_transform` lets `refl` compute what the definitions give for a text that is written out. scripts/computing.py writes this file.

unfoldable pub rst_transform : Unit {0}
unfolding
    lib.Utf8.encode Rattle.std.specs.Fmt.digits Rattle.rst_transform_work.proofs.Computing.rst_transform_work
    Rattle.rst_transform_substitutions.proofs.Computing.rst_transform_substitutions
    Rattle.rst_transform_references.proofs.Computing.rst_transform_references Rattle.rst_transform_structure.proofs.Computing.rst_transform_structure
    Rattle.rst_transform_docinfo.proofs.Computing.rst_transform_docinfo Rattle.rst_transform_contents.proofs.Computing.rst_transform_contents
    Rattle.rst_transform_messages.proofs.Computing.rst_transform_messages Rattle.rst_transform_names.proofs.Computing.rst_transform_names
    Rattle.rst_text.proofs.Computing.rst_text Rattle.rst_tree.proofs.Computing.rst_tree Rattle.rst_transform.specs.Linking.resolved_links
rst_transform = tt
