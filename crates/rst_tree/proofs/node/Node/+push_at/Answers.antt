use Rattle.std.proofs.Common.{◌≡◌, ◌++◌, ◌∷◌, [], rules, arith, refl, ap, subst, sym, ◌∙◌}
use Rattle.std.specs.Prelude.{IsSomeAnd}
use Rattle.std.proofs.lemmas.List.{nil_from_length}
use Rattle.rst_tree.specs.Nodes.{nodes_of}
use Rattle.rst_tree.specs.Paths.{node_at, changed_at, with_child, IsElement}
use Rattle.rst_tree.proofs.Changes.{nodes_of-forest_of, no_text, child_there, child_changed}
use Rattle.rst_tree.proofs.node.Node.+push_at.Goals as goal

pub index_mut-node-requires : goal.index_mut-node-requires
index_mut-node-requires t c =
    let k = child_there _ _ _ _ _ c.children.inside.list.items _ c.in-Some.rest.now _ IsElement c.in-Element.is c.children.view_is c.in-Some.ensures.cases.0 c.requires.path in
    omega (arith, k.0, c.children.inside.list.ok.0)

pub push_at-requires : goal.push_at-requires
push_at-requires t c =
    let k = child_there _ _ _ _ _ c.children.inside.list.items _ c.in-Some.rest.now _ IsElement c.in-Element.is c.children.view_is c.in-Some.ensures.cases.0 c.requires.path in
    let there : IsSomeAnd (node_at c.in-Some.rest.now c.index_mut-node.result.now) IsElement =
    subst (λ n. IsSomeAnd (node_at c.in-Some.rest.now n) IsElement) (sym c.index_mut-node.ensures.value) (k.1 c.index_mut-node.result.now) in
    let shorter = c.in-Some.ensures.cases.1 in
    search (rules, there, shorter)

pub unreachable-requires : goal.unreachable-requires
unreachable-requires t c = no_text c.args.at.now c.args.self.now c.in-Text.field-0 c.in-Text.is c.requires.path

pub returns-in_ok-push_at-in-Some : goal.returns-in_ok-push_at-in-Some
returns-in_ok-push_at-in-Some t c =
    let k = child_there _ _ _ _ _ c.children.inside.list.items _ c.in-Some.rest.now _ IsElement c.in-Element.is c.children.view_is c.in-Some.ensures.cases.0 c.requires.path in
    child_changed (with_child c.args.child) _ _ _ _ _ _ _ _ _ c.index_mut-node.result.now c.push_at.new.self c.in-Element.is c.children.view_is c.in-Some.ensures.cases.0 k.0
    (c.in_ok-push_at-in-Some.ensures ∙ ap (changed_at (with_child c.args.child) c.in-Some.rest.now) c.index_mut-node.ensures.value)

pub returns-in_default : goal.returns-in_default
returns-in_default t c =
    let e : c.push.new.self.items ≡ nodes_of c.in-Element.children ++ c.args.child ∷ [] = c.in_default.ensures.items ∙ rw (← c.children.view_is, nodes_of-forest_of c.children.inside.list.items) refl in
    rw (nil_from_length _ c.in-None.ensures.cases, c.in-Element.is, e) refl
