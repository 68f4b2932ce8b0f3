-- `unfolding rst_markup_blocks` lets `refl` compute what the definitions give for a text that is written out. scripts/computing.py writes this file.

unfoldable pub rst_markup_blocks : Unit {0}
unfolding
    lib.Utf8.encode Rattle.std.specs.Fmt.digits Rattle.rst_markup_lines.proofs.Computing.rst_markup_lines Rattle.rst_text.proofs.Computing.rst_text
    Rattle.rst_markup_blocks.specs.Attributions.level_lines Rattle.rst_markup_blocks.specs.Attributions.attribution_after
    Rattle.rst_markup_blocks.specs.Attributions.attribution_at Rattle.rst_markup_blocks.specs.Conditions.item_enumerator
    Rattle.rst_markup_blocks.specs.Conditions.item_option Rattle.rst_markup_blocks.specs.Explicit.embedded_directive
    Rattle.rst_markup_blocks.specs.Explicit.after_dots Rattle.rst_markup_blocks.specs.Explicit.anonymous_of
    Rattle.rst_markup_blocks.specs.Explicit.explicit_of Rattle.rst_markup_blocks.specs.Explicit.explicit_size
    Rattle.rst_markup_blocks.specs.ExplicitMarkup.comment_cause Rattle.rst_markup_blocks.specs.ExplicitMarkup.explicit_form
    Rattle.rst_markup_blocks.specs.ExplicitMarkup.hanging_part Rattle.rst_markup_blocks.specs.Forms.underlined
    Rattle.rst_markup_blocks.specs.Forms.text_form Rattle.rst_markup_blocks.specs.Forms.overlined Rattle.rst_markup_blocks.specs.Forms.adorned_alone
    Rattle.rst_markup_blocks.specs.Forms.adorned_over Rattle.rst_markup_blocks.specs.Forms.adorned_below
    Rattle.rst_markup_blocks.specs.Forms.adorned_form Rattle.rst_markup_blocks.specs.Kinds.first_kind Rattle.rst_markup_blocks.specs.Kinds.kind_at
    Rattle.rst_markup_blocks.specs.Lines.lines_while Rattle.rst_markup_blocks.specs.Partition.construct_size
    Rattle.rst_markup_blocks.specs.Partition.spans_from Rattle.rst_markup_blocks.specs.Sizes.hanging_size
    Rattle.rst_markup_blocks.specs.Sizes.least_below Rattle.rst_markup_blocks.specs.Sizes.bullet_size
    Rattle.rst_markup_blocks.specs.Sizes.enumerator_size Rattle.rst_markup_blocks.specs.Sizes.run_size
    Rattle.rst_markup_blocks.specs.Sizes.indented_size Rattle.rst_markup_blocks.specs.Sizes.doctest_size
    Rattle.rst_markup_blocks.specs.Sizes.paragraph_len Rattle.rst_markup_blocks.specs.Sizes.quoted_size
    Rattle.rst_markup_blocks.specs.Sizes.literal_size Rattle.rst_markup_blocks.specs.Sizes.paragraph_size
    Rattle.rst_markup_blocks.specs.Sizes.text_size Rattle.rst_markup_blocks.specs.Sizes.adornment_size
    Rattle.rst_markup_blocks.specs.TableLines.is_drawn Rattle.rst_markup_blocks.specs.TableLines.border_len
    Rattle.rst_markup_blocks.specs.TableLines.is_lower_border Rattle.rst_markup_blocks.specs.TableRows.grid_size
    Rattle.rst_markup_blocks.specs.TableRows.grid_scan Rattle.rst_markup_blocks.specs.TableRows.simple_size
    Rattle.rst_markup_blocks.specs.TableRows.simple_scan
rst_markup_blocks = tt
