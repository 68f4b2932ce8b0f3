-- `unfolding rst_markup_tables` lets `refl` compute what the definitions give for a text that is written out. scripts/computing.py writes this file.

unfoldable pub rst_markup_tables : Unit {0}
unfolding
    lib.Utf8.encode Rattle.std.specs.Fmt.digits Rattle.rst_text.proofs.Computing.rst_text Rattle.rst_markup_lines.proofs.Computing.rst_markup_lines
    Rattle.rst_markup_blocks.proofs.Computing.rst_markup_blocks Rattle.unicode_width.proofs.Computing.unicode_width
    Rattle.rst_markup_tables.specs.Drawn.is_across Rattle.rst_markup_tables.specs.Drawn.is_upright Rattle.rst_markup_tables.specs.Drawn.is_frame
    Rattle.rst_markup_tables.specs.Drawn.drawn_at Rattle.rst_markup_tables.specs.Drawn.covers Rattle.rst_markup_tables.specs.GridTable.is_head_rule
    Rattle.rst_markup_tables.specs.GridTable.is_whole Rattle.rst_markup_tables.specs.GridTable.bounds_column
    Rattle.rst_markup_tables.specs.GridTable.bounds_row Rattle.rst_markup_tables.specs.Places.is_double Rattle.rst_markup_tables.specs.Places.width
    Rattle.rst_markup_tables.specs.Search.begin_at Rattle.rst_markup_tables.specs.SimpleTable.is_ruled
    Rattle.rst_markup_tables.specs.SimpleTable.is_rule Rattle.rst_markup_tables.specs.SimpleTable.begins_span
    Rattle.rst_markup_tables.specs.SimpleTable.is_white_place Rattle.rst_markup_tables.specs.Tiling.tiling_of
rst_markup_tables = tt
