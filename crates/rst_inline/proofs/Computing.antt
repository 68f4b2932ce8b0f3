-- `unfolding rst_inline` lets `refl` compute what the definitions give for a text that is written out. scripts/computing.py writes this file.

unfoldable pub rst_inline : Unit {0}
unfolding
    lib.Utf8.encode Rattle.std.specs.Fmt.digits Rattle.rst_text.proofs.Computing.rst_text Rattle.rst_tree.proofs.Computing.rst_tree
    Rattle.rst_inline_scan.proofs.Computing.rst_inline_scan Rattle.rst_inline.specs.Embedded.opens_angle Rattle.rst_inline.specs.Embedded.ends_with
    Rattle.rst_inline.specs.Embedded.last_angle Rattle.rst_inline.specs.Embedded.fits_angle Rattle.rst_inline.specs.Embedded.embedded_at
    Rattle.rst_inline.specs.Embedded.dark_end Rattle.rst_inline.specs.Embedded.is_alias Rattle.rst_inline.specs.Readings.reading
    Rattle.rst_inline.specs.Roles.role_named Rattle.rst_inline.specs.Roles.is_wider_role
rst_inline = tt
