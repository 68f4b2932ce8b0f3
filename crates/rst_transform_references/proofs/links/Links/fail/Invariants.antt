use Rattle.std.proofs.Common.{◌≡◌, ◌+◌, []}
use Rattle.std.specs.List.{range_with_len}
use Rattle.std.specs.Prelude.{slice_set}
use Rattle.rst_tree.specs.declared.node.Node.TheVariants.{Text}
use Rattle.rst_transform_references.specs.Links.{all, nodes_now}
use Rattle.rst_transform_references.proofs.links.Links.fail.Given as goal

abbrev pub invariant-loop-offset : goal.invariant-loop-offset
invariant-loop-offset l = record {
  nothing : l.self-inside.nothing.now ≡ Text [];
  changes : l.self-inside.changes ≡ l.initial.self-inside.changes;
  linked : nodes_now l.self-inside.linked.items ≡ all (λ offset linked. slice_set linked (l.fn.place + offset) (Text [])) (range_with_len 0 l.offset) (nodes_now l.initial.self-inside.linked.items);
}
