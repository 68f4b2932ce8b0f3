use Rattle.std.proofs.Common.{drop}
use Rattle.rst_tree.specs.Nodes.{forest_of}
use Rattle.rst_transform_contents.specs.Entries.{entries}
use Rattle.rst_transform_contents.proofs.Threading.{Threads}
use Rattle.rst_transform_contents.proofs.entries.Tables.+entries.Given as goal

abbrev pub decreases-entries : goal.decreases-entries
decreases-entries l = l.levels

abbrev pub invariant-loop-section : goal.invariant-loop-section
invariant-loop-section l =
    Threads (entries l.fn.backlinks l.fn.levels (forest_of l.fn.outline)) (entries l.fn.backlinks l.fn.levels (forest_of (drop l.section-index l.outline))) l.initial.self l.self l.made.items
