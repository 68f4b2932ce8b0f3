-- `unfolding rst_json` lets `refl` compute what the definitions give for a text that is written out. scripts/computing.py writes this file.

unfoldable pub rst_json : Unit {0}
unfolding
    lib.Utf8.encode Rattle.std.specs.Fmt.digits Rattle.rst_tree.proofs.Computing.rst_tree Rattle.rst_json.specs.Reader.tag_named
    Rattle.rst_json.specs.Reader.key_named
rst_json = tt
