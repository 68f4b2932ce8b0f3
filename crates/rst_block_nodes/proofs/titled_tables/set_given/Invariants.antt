use Rattle.std.proofs.Common.{◌≡◌}
use Rattle.std.specs.Vec.Iter.{into_iter_items}
use Rattle.rst_block_nodes.specs.TitledTables.{with_given}
use Rattle.rst_block_nodes.proofs.titled_tables.set_given.Given as goal

abbrev pub invariant-loop-option : goal.invariant-loop-option
invariant-loop-option l = with_given (into_iter_items l.option-iterator) l.attrs ≡ with_given l.fn.given l.initial.attrs
