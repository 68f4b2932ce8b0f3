-- `unfolding rst_transform_contents` lets `refl` compute what the definitions give for a text that is written out. scripts/computing.py writes this file.

unfoldable pub rst_transform_contents : Unit {0}
unfolding
    lib.Utf8.encode Rattle.std.specs.Fmt.digits Rattle.rst_transform_work.proofs.Computing.rst_transform_work
    Rattle.rst_transform_names.proofs.Computing.rst_transform_names Rattle.rst_tree.proofs.Computing.rst_tree
rst_transform_contents = tt
