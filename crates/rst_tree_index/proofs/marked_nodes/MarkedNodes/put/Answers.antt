use Rattle.std.proofs.Common.{rules, ◌≡◌, ◌∷◌, ◌++◌, [], ap, sym, ◌∙◌}
use Rattle.std.specs.Prelude.{map}
use Rattle.rst_tree_index.specs.Known.{place_and_marks, known_of}
use Rattle.rst_tree_index.specs.MarkPaths.{node_paths}
use Rattle.rst_tree_index.proofs.Knowing.{pushed}
use Rattle.rst_tree_index.proofs.marked_nodes.MarkedNodes.put.Goals as goal

pub invariant_of-self-2 : goal.invariant_of-self-2
invariant_of-self-2 c =
    let ns = c.self.inside.nodes.items in
    let items : c.push_reserved.new.self.items ≡ ns ++ c.args.root ∷ [] = search rules in
    pushed (map place_and_marks c.self.inside.known.items) (map place_and_marks c.note.new.known.items) ns c.args.root c.len.result (node_paths c.args.own c.args.inner) c.self.invariant
    (search rules) c.requires c.in_ok-note.ensures.noted
    ∙ ap (known_of 0) (sym items)
