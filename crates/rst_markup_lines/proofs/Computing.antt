-- `unfolding rst_markup_lines` lets `refl` compute what the definitions give for a text that is written out. scripts/computing.py writes this file.

unfoldable pub rst_markup_lines : Unit {0}
unfolding
    lib.Utf8.encode Rattle.std.specs.Fmt.digits Rattle.rst_text.proofs.Computing.rst_text Rattle.rst_markup_lines.specs.Adornment.adornment_of
    Rattle.rst_markup_lines.specs.Attribution.dash_len Rattle.rst_markup_lines.specs.Attribution.attribution_of
    Rattle.rst_markup_lines.specs.Border.is_grid_border Rattle.rst_markup_lines.specs.Border.is_simple_border
    Rattle.rst_markup_lines.specs.Class.is_in Rattle.rst_markup_lines.specs.Class.run Rattle.rst_markup_lines.specs.Closing.is_closing
    Rattle.rst_markup_lines.specs.Closing.closes Rattle.rst_markup_lines.specs.Decimal.decimal Rattle.rst_markup_lines.specs.Enumerator.arabic_at
    Rattle.rst_markup_lines.specs.Enumerator.letters_at Rattle.rst_markup_lines.specs.Enumerator.written_at
    Rattle.rst_markup_lines.specs.Enumerator.enumerator_of Rattle.rst_markup_lines.specs.Enumerator.begins_next
    Rattle.rst_markup_lines.specs.ExplicitMarks.dots Rattle.rst_markup_lines.specs.ExplicitMarks.underscores
    Rattle.rst_markup_lines.specs.ExplicitMarks.label_kind Rattle.rst_markup_lines.specs.ExplicitMarks.label_of
    Rattle.rst_markup_lines.specs.ExplicitMarks.quoted_target Rattle.rst_markup_lines.specs.ExplicitMarks.plain_target
    Rattle.rst_markup_lines.specs.ExplicitMarks.anonymous_target Rattle.rst_markup_lines.specs.ExplicitMarks.target_of
    Rattle.rst_markup_lines.specs.ExplicitMarks.substitution_of Rattle.rst_markup_lines.specs.ExplicitMarks.colons
    Rattle.rst_markup_lines.specs.ExplicitMarks.directive_mark_of Rattle.rst_markup_lines.specs.Field.field_of
    Rattle.rst_markup_lines.specs.Marker.marker_of Rattle.rst_markup_lines.specs.Marker.bullet Rattle.rst_markup_lines.specs.Marker.doctest
    Rattle.rst_markup_lines.specs.Marker.line_bar Rattle.rst_markup_lines.specs.OptionMarker.argument_len
    Rattle.rst_markup_lines.specs.OptionMarker.argument_after Rattle.rst_markup_lines.specs.OptionMarker.short_argument
    Rattle.rst_markup_lines.specs.OptionMarker.long_argument Rattle.rst_markup_lines.specs.OptionMarker.long_option
    Rattle.rst_markup_lines.specs.OptionMarker.short_option Rattle.rst_markup_lines.specs.OptionMarker.option_at
    Rattle.rst_markup_lines.specs.OptionMarker.tail_at Rattle.rst_markup_lines.specs.OptionMarker.option_tail
    Rattle.rst_markup_lines.specs.OptionMarker.options_from Rattle.rst_markup_lines.specs.Roman.roman Rattle.rst_markup_lines.specs.Roman.digit_to
rst_markup_lines = tt
