use Rattle.std.proofs.Common.{rules, ◌≡◌, ◌++◌, ◌+◌, ◌-◌, ◌^◌, ◌≤◌, length, map, ap, sym, ◌∙◌}
use Rattle.rst_tree_index.specs.Known.{place_and_marks, known_of}
use Rattle.rst_tree_index.proofs.Knowing.{appended}
use Rattle.rst_tree_index.proofs.marked_nodes.MarkedNodes.append.Goals as goal

pub invariant_of-self-2 : goal.invariant_of-self-2
invariant_of-self-2 c =
    let ns = c.self.inside.nodes.items in
    let more = c.more.inside.nodes.items in
    let at : c.len.result ≡ length ns = search rules in
    let fits : length ns + length more ≤ 2 ^ 64 - 1 = search rules in
    let nodes : c.append.new.self.items ≡ ns ++ more = search rules in
    let known : c.append-2.new.self.items ≡ c.self.inside.known.items ++ c.in_ok-known.known.items = search rules in
    ap (map place_and_marks) known ∙ appended c.self.inside.known.items c.more.inside.known.items c.in_ok-known.known.items ns more c.len.result c.self.invariant c.more.invariant at fits c.in_ok-known.ensures
    ∙ ap (known_of 0) (sym nodes)
