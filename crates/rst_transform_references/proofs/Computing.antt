-- `unfolding rst_transform_references` lets `refl` compute what the definitions give for a text that is written out. scripts/computing.py writes this file.

unfoldable pub rst_transform_references : Unit {0}
unfolding
    lib.Utf8.encode Rattle.std.specs.Fmt.digits Rattle.rst_transform_work.proofs.Computing.rst_transform_work
    Rattle.rst_transform_names.proofs.Computing.rst_transform_names Rattle.rst_tree.proofs.Computing.rst_tree
    Rattle.rst_transform_references.specs.Anonymous.anonymous Rattle.rst_transform_references.specs.Failing.fail_for
    Rattle.rst_transform_references.specs.Footnotes.refer_by Rattle.rst_transform_references.specs.Footnotes.footnotes
    Rattle.rst_transform_references.specs.Indirect.indirect Rattle.rst_transform_references.specs.Resolving.references
rst_transform_references = tt
