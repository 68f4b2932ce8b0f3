-- `unfolding rst_transform_docinfo` lets `refl` compute what the definitions give for a text that is written out. scripts/computing.py writes this file.

unfoldable pub rst_transform_docinfo : Unit {0}
unfolding
    lib.Utf8.encode Rattle.std.specs.Fmt.digits Rattle.std.specs.Str.trim_start Rattle.std.specs.Str.trim_end
    Rattle.rst_transform_work.proofs.Computing.rst_transform_work Rattle.rst_transform_names.proofs.Computing.rst_transform_names
    Rattle.rst_text.proofs.Computing.rst_text Rattle.rst_tree.proofs.Computing.rst_tree
    Rattle.rst_transform_docinfo.specs.Bibliography.bibliography_row
rst_transform_docinfo = tt
