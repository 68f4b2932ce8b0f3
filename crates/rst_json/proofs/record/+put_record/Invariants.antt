use Rattle.std.proofs.Common.{◌≡◌, ◌++◌, take, None}
use Rattle.std.specs.List.{flat_map}
use Rattle.rst_json.specs.Records.{node_record_of}
use Rattle.rst_tree.specs.Nodes.{node_height}
use Rattle.rst_tree.specs.PrintedAttributes.{with_printed_attrs}
use Rattle.rst_json.proofs.record.+put_record.Given as goal

abbrev pub invariant-loop-child : goal.invariant-loop-child
invariant-loop-child l = l.out.items ≡ l.initial.out.items ++ flat_map (λ n. node_record_of l.all (with_printed_attrs None n)) (take l.child-index l.child-items)

abbrev pub decreases-put_record : goal.decreases-put_record
decreases-put_record l = node_height l.node.now
