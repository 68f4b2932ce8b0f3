-- `unfolding rst_c` lets `refl` compute what the definitions give for a text that is written out. scripts/computing.py writes this file.

unfoldable pub rst_c : Unit {0}
unfolding
    lib.Utf8.encode Rattle.std.specs.Fmt.digits Rattle.rst_json.proofs.Computing.rst_json Rattle.rst_text.proofs.Computing.rst_text
    Rattle.rst_tree.proofs.Computing.rst_tree Rattle.rst_transform.proofs.Computing.rst_transform
    Rattle.rst_transform_messages.proofs.Computing.rst_transform_messages Rattle.rst2pseudoxml_options.proofs.Computing.rst2pseudoxml_options
    Rattle.rst2pseudoxml_run.proofs.Computing.rst2pseudoxml_run
rst_c = tt
