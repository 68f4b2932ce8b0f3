use Rattle.std.proofs.Common.{rules, ◌≡◌, ◌++◌, [], ◌∷◌, sym, ap, ◌∙◌, Some, None}
use Rattle.std.specs.Prelude.{map}
use Rattle.std.specs.Vec.Iter.{into_iter_items}
use Rattle.std.proofs.lemmas.List.{nil_from_length}
use Rattle.rst_block_nodes.specs.Terms.{ended_groups}
use Rattle.rst_block_nodes.proofs.HeadLemmas.{heads_after, first_head, further_head, group_ended, group_open, heads_done}
use Rattle.rst_block_nodes.proofs.terms.heads_of.Goals.{then-is_empty+in_ok-counting-in-None-node, else-is_empty}
use Rattle.rst_block_nodes.proofs.terms.heads_of.Goals as goal

pub loop-node-preserved : goal.loop-node-preserved
loop-node-preserved c =
    let n = c.args.notes in
    let heads = c.loop-node.heads.items in
    let group = c.loop-node.group.items in
    let rest = into_iter_items c.next.new.self in
    let next : into_iter_items c.loop-node.node-iterator ≡ None ∷ rest = c.in-Some.ensures.steps.0 ∙ ap (λ node. node ∷ rest) c.in-None-node.is in
    ap (λ g. heads_after n c.args.line c.push-in-None-node.new.self.items (ended_groups (map Some g ++ rest))) c.new-group-in-None-node.ensures.items
    ∙ elim c.if-is_empty.branch [
      | then-is_empty+in_ok-counting-in-None-node w ↦ first_head n c.args.line heads c.push-in-None-node.new.self.items group (ended_groups rest) (search rules) (search rules)
      | else-is_empty w ↦ further_head n c.args.line heads c.push-in-None-node.new.self.items group (ended_groups rest) (search rules) (search rules)
    ]
    ∙ ap (heads_after n c.args.line heads) (sym (group_ended group rest))
    ∙ ap (λ ns. heads_after n c.args.line heads (ended_groups (map Some group ++ ns))) (sym next)
    ∙ c.loop-node.invariant

pub returns : goal.returns
returns c =
    let none : into_iter_items c.loop-node.node-iterator ≡ [] = nil_from_length _ (sym c.loop-node.node-iterator.rest.ok.0 ∙ c.in-None.ensures.steps.0) in
    sym (heads_done c.args.notes c.args.line c.loop-node.heads.items)
    ∙ ap (heads_after c.args.notes c.args.line c.loop-node.heads.items) (sym (group_open c.loop-node.group.items))
    ∙ ap (λ ns. heads_after c.args.notes c.args.line c.loop-node.heads.items (ended_groups (map Some c.loop-node.group.items ++ ns))) (sym none)
    ∙ c.loop-node.invariant
