use Rattle.std.proofs.Common.{◌≡◌, rules, sym, ◌∙◌, ap}
use Rattle.std.specs.List.{flat_map}
use Rattle.std.proofs.lemmas.List.{map-id}
use Rattle.std.proofs.lemmas.Iterator.Consumers.{YieldsList-end}
use Rattle.std.proofs.lemmas.Iterator.Adapters.{YieldsList-from_vec}
use Rattle.rst_tree.specs.Nodes.{nodes_of}
use Rattle.rst_tree.proofs.Changes.{nodes_of-forest_of}
use Rattle.rst_transform_substitutions.specs.Expanded.{unwrapped_reference}
use Rattle.rst_transform_substitutions.proofs.expand.open_references.Goals as goal

pub returns : goal.returns
returns c =
    let end = YieldsList-end (YieldsList-from_vec {s = c.into_iter-node-iterator.result} c.into_list-list.result.items (search rules) (search rules))
    c.loop-node.yielded c.loop-node.node-iterator c.loop-node.yielded_by c.next.result c.next.new.self c.in-None.is c.next.ensures.steps in
    let all : c.loop-node.yielded ≡ c.into_list-list.result.items = sym (map-id c.loop-node.yielded) ∙ end.0 in
    ap nodes_of c.of.ensures ∙ nodes_of-forest_of c.loop-node.done.items ∙ c.loop-node.invariant ∙ ap (flat_map unwrapped_reference) (all ∙ c.into_list-list.ensures.nodes ∙ ap nodes_of c.replace.ensures.value)
