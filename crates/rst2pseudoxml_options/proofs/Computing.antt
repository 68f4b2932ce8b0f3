-- `unfolding rst2pseudoxml_options` lets `refl` compute what the definitions give for a text that is written out. scripts/computing.py writes this file.

unfoldable pub rst2pseudoxml_options : Unit {0}
unfolding
    lib.Utf8.encode Rattle.std.specs.Fmt.digits Rattle.clap.proofs.OnLiterals.clap_on_literals Rattle.rst2pseudoxml_options.specs.Command.program
    Rattle.rst2pseudoxml_options.specs.Command.faults_at Rattle.rst2pseudoxml_options.specs.Command.rows_at
    Rattle.rst2pseudoxml_options.specs.Options.choice_of Rattle.rst2pseudoxml_options.specs.Options.options_of
    Rattle.rst2pseudoxml_options.specs.Tree.tree_options_of Rattle.rst2pseudoxml_options.specs.TreeCommand.tree_command
    Rattle.rst2pseudoxml_options.specs.Values.threshold_of Rattle.rst2pseudoxml_options.specs.Values.number_to
rst2pseudoxml_options = tt
