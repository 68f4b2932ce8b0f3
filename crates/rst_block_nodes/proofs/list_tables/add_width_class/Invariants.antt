use Rattle.std.proofs.Common.{◌≡◌, ◌++◌, take}
use Rattle.rst_block_nodes.proofs.list_tables.add_width_class.Given as goal

abbrev pub invariant-loop-class : goal.invariant-loop-class
invariant-loop-class l = l.classes ≡ l.initial.classes ++ take l.class-index l.class-items
