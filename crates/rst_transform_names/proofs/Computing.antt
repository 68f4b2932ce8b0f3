-- `unfolding rst_transform_names` lets `refl` compute what the definitions give for a text that is written out. scripts/computing.py writes this file.

unfoldable pub rst_transform_names : Unit {0}
unfolding
    lib.Utf8.encode Rattle.std.specs.Fmt.digits Rattle.rst_text.proofs.Computing.rst_text Rattle.rst_tree.proofs.Computing.rst_tree
    Rattle.rst_transform_names.specs.Rulings.registered_ruling
rst_transform_names = tt
