-- `unfolding rst_tree` lets `refl` compute what the definitions give for a text that is written out. scripts/computing.py writes this file.

unfoldable pub rst_tree : Unit {0}
unfolding
    lib.Utf8.encode Rattle.std.specs.Fmt.digits Rattle.rst_text.proofs.Computing.rst_text Rattle.rst_tree.specs.KeyNames.key_name
    Rattle.rst_tree.specs.LevelNames.level_name Rattle.rst_tree.specs.Phrases.phrase_text Rattle.rst_tree.specs.TagNames.tag_name
rst_tree = tt
