use Rattle.std.proofs.Common.{◌≡◌, ◌∷◌, take}
use Rattle.rst_tree.specs.Nodes.{forest_of}
use Rattle.rst_transform_structure.specs.LastSection.{heading, own_nodes}
use Rattle.rst_transform_structure.proofs.LastNodes.{moved_to}
use Rattle.rst_transform_structure.proofs.last_section.section.Given as goal

abbrev pub invariant-loop-i : goal.invariant-loop-i
invariant-loop-i l = record {
  nodes : l.children ≡ forest_of (heading ∷ own_nodes (take l.i l.initial.reports.items));
  reports : l.reports.items ≡ moved_to l.i l.initial.reports.items;
}
