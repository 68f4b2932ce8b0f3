use Rattle.std.proofs.Common.{◌≡◌, ◌++◌, take, None}
use Rattle.std.specs.List.{flat_map}
use Rattle.rst_json.specs.Json.{after_comma, json_node_of}
use Rattle.rst_tree.specs.Nodes.{node_height}
use Rattle.rst_tree.specs.PrintedAttributes.{with_printed_attrs}
use Rattle.rst_json.proofs.element.+put_node.Given as goal

abbrev pub invariant-loop-child : goal.invariant-loop-child
invariant-loop-child l = l.out.items ≡ l.initial.out.items ++ flat_map (λ n. after_comma (json_node_of l.all (with_printed_attrs None n))) (take l.child-index l.child-items)

abbrev pub decreases-put_node : goal.decreases-put_node
decreases-put_node l = node_height l.node.now
