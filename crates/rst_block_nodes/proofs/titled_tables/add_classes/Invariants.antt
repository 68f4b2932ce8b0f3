use Rattle.std.proofs.Common.{◌≡◌, ◌++◌, take}
use Rattle.rst_block_nodes.proofs.titled_tables.add_classes.Given as goal

abbrev pub invariant-loop-class : goal.invariant-loop-class
invariant-loop-class l = l.classes ≡ l.initial.classes ++ take l.class-index l.more
