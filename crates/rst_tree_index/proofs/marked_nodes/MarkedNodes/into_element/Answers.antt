use Rattle.std.proofs.Common.{[], ap, refl, sym, ◌∙◌}
use Rattle.rst_tree.specs.Nodes.{forest_of}
use Rattle.rst_tree_index.specs.Known.{known_of}
use Rattle.rst_tree_index.specs.Registered.{is_registered}
use Rattle.rst_tree_index.proofs.Knowing.{all_paths, known_used, marks_paths}
use Rattle.rst_tree_index.proofs.Marking.{marks_element}
use Rattle.rst_tree_index.proofs.marked_nodes.MarkedNodes.into_element.Goals as goal

pub of_used-requires : goal.of_used-requires
of_used-requires c = known_used c.self.inside.known.items c.self.inside.nodes.items c.self.invariant

pub from_parts-requires : goal.from_parts-requires
from_parts-requires c =
    let paths =
    all_paths c.self.inside.known.items c.shrink_to_fit.new.self.items c.of_used.result (c.self.invariant ∙ ap (known_of 0) (sym c.shrink_to_fit.ensures.items)) (c.of_used.ensures ∙ marks_paths c.self.inside.known.items) in
    marks_element is_registered c.args.tag c.args.attrs c.args.line (forest_of c.shrink_to_fit.new.self.items) c.of.result c.is_registered-own.result [] c.of_used.result c.is_registered-own.ensures refl c.of.ensures paths
