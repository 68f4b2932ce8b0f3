-- `unfolding rst_markup_directives` lets `refl` compute what the definitions give for a text that is written out. scripts/computing.py writes this file.

unfoldable pub rst_markup_directives : Unit {0}
unfolding
    lib.Utf8.encode Rattle.std.specs.Fmt.digits Rattle.rst_text.proofs.Computing.rst_text Rattle.rst_tree.proofs.Computing.rst_tree
    Rattle.rst_markup_lines.proofs.Computing.rst_markup_lines Rattle.rst_markup_blocks.proofs.Computing.rst_markup_blocks
    Rattle.rst_markup_directives.specs.Argument.word_of Rattle.rst_markup_directives.specs.Characters.is_exactly
    Rattle.rst_markup_directives.specs.Characters.is_word Rattle.rst_markup_directives.specs.Characters.is_same_word
    Rattle.rst_markup_directives.specs.Contents.backlinks_of Rattle.rst_markup_directives.specs.Contents.depth_of
    Rattle.rst_markup_directives.specs.Directive.run_in Rattle.rst_markup_directives.specs.Directive.directive_by_layout
    Rattle.rst_markup_directives.specs.Directive.read_block Rattle.rst_markup_directives.specs.Directive.directive_of
    Rattle.rst_markup_directives.specs.Judgement.permitted Rattle.rst_markup_directives.specs.Judgement.content_fault
    Rattle.rst_markup_directives.specs.Kind.directive_named Rattle.rst_markup_directives.specs.Kind.is_wider_directive
    Rattle.rst_markup_directives.specs.Kind.is_code Rattle.rst_markup_directives.specs.Layout.begins_field
    Rattle.rst_markup_directives.specs.Layout.layout_at Rattle.rst_markup_directives.specs.Lines.joined_nonempty
    Rattle.rst_markup_directives.specs.Measure.number_len Rattle.rst_markup_directives.specs.Measure.measure_of
    Rattle.rst_markup_directives.specs.Measure.scale_of Rattle.rst_markup_directives.specs.Measure.alignment_of
    Rattle.rst_markup_directives.specs.OptionName.option_named Rattle.rst_markup_directives.specs.Options.option_field
    Rattle.rst_markup_directives.specs.Options.settings_in Rattle.rst_markup_directives.specs.Target.target_text
    Rattle.rst_markup_directives.specs.Target.is_simple_reference Rattle.rst_markup_directives.specs.Target.is_phrase
    Rattle.rst_markup_directives.specs.Target.phrase_in Rattle.rst_markup_directives.specs.Target.is_phrase_reference
    Rattle.rst_markup_directives.specs.Target.destination_in Rattle.rst_markup_directives.specs.Target.target_value
    Rattle.rst_markup_directives.specs.Value.ids_of Rattle.rst_markup_directives.specs.Widths.width_of
    Rattle.rst_markup_directives.specs.Widths.widths_in Rattle.rst_markup_directives.specs.Widths.columns_of
rst_markup_directives = tt
