-- `unfolding rst_block_state` lets `refl` compute what the definitions give for a text that is written out. scripts/computing.py writes this file.

unfoldable pub rst_block_state : Unit {0}
unfolding
    lib.Utf8.encode Rattle.std.specs.Fmt.digits Rattle.rst_text.proofs.Computing.rst_text Rattle.rst_tree.proofs.Computing.rst_tree
    Rattle.rst_markup_lines.proofs.Computing.rst_markup_lines Rattle.rst_markup_blocks.proofs.Computing.rst_markup_blocks
    Rattle.rst_markup_directives.proofs.Computing.rst_markup_directives Rattle.rst_markup_tables.proofs.Computing.rst_markup_tables
    Rattle.rst_block_nodes.proofs.Computing.rst_block_nodes Rattle.rst_block_state.specs.Nodes.below_last_level
    Rattle.rst_block_state.specs.Nodes.inner_nodes Rattle.rst_block_state.specs.looks.Budget.sum_of
    Rattle.rst_block_state.specs.looks.Budget.filled_sum Rattle.rst_block_state.specs.looks.Budget.deepest_of
    Rattle.rst_block_state.specs.looks.Budget.depth Rattle.rst_block_state.specs.looks.Budget.cells_budget
    Rattle.rst_block_state.specs.looks.Budget.floor Rattle.rst_block_state.specs.looks.Budget.total Rattle.rst_block_state.specs.looks.Ledger.most_in
    Rattle.rst_block_state.specs.looks.Ledger.least_in Rattle.rst_block_state.specs.looks.Reaches.through
    Rattle.rst_block_state.specs.machine.Meanings.plug Rattle.rst_block_state.specs.machine.Rest.walk
rst_block_state = tt
