-- `unfolding rst_transform_structure` lets `refl` compute what the definitions give for a text that is written out. scripts/computing.py writes this file.

unfoldable pub rst_transform_structure : Unit {0}
unfolding
    lib.Utf8.encode Rattle.std.specs.Fmt.digits Rattle.rst_transform_work.proofs.Computing.rst_transform_work
    Rattle.rst_transform_names.proofs.Computing.rst_transform_names Rattle.rst_tree.proofs.Computing.rst_tree
    Rattle.rst_transform_structure.specs.Classes.classed Rattle.rst_transform_structure.specs.Transitions.transition_message
    Rattle.rst_transform_structure.specs.Transitions.placed_transition Rattle.rst_transform_structure.specs.Transitions.placed_in
rst_transform_structure = tt
