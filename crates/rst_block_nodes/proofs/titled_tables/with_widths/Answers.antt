use Rattle.std.proofs.Common.{◌≡◌, List, [], ◌++◌, sym, ap, ◌∙◌}
use Rattle.std.proofs.lemmas.List.{append-nil, nil_from_length}
use Rattle.std.specs.Vec.Iter.{into_iter_items}
use Rattle.rst_block_nodes.specs.TitledTables.{with_widths}
use Rattle.rst_block_nodes.proofs.TitledTableLemmas.{no_nodes}
use Rattle.rst_block_nodes.proofs.titled_tables.with_widths.Goals as goal

pub returns : goal.returns
returns c =
    let none : into_iter_items c.loop-node.node-iterator ≡ [] = nil_from_length _ (sym c.loop-node.node-iterator.rest.ok.0 ∙ c.in-None.ensures.steps.0) in
    sym (ap (λ ns. c.loop-node.made.items ++ ns) (ap (with_widths c.loop-node.left.now) none ∙ no_nodes c.loop-node.left.now) ∙ append-nil c.loop-node.made.items) ∙ c.loop-node.invariant
