use Rattle.std.proofs.Common.{◌≡◌, ◌++◌, [], ap, sym, ◌∙◌, subst, arith, IfOk}
use Rattle.std.proofs.lemmas.List.{nil_from_length}
use Rattle.rst_tree.specs.Nodes.{forest_of, nodes_of}
use Rattle.rst_tree.specs.declared.node.Node.{Node}
use Rattle.rst_tree.specs.declared.node.Node.TheVariants.{Element}
use Rattle.rst_block_nodes.specs.Sections.{filled}
use Rattle.rst_block_nodes.proofs.contents.completed.Goals as goal

pub returns-then-len-eq0 : goal.returns-then-len-eq0
returns-then-len-eq0 c =
    let inside = c.in-Element in
    let none : nodes_of inside.children ≡ [] = nil_from_length _ (omega (arith, c.len.ensures, c.if-len-eq0.true)) in
    let is : Element inside.tag inside.attrs (forest_of c.args.more) inside.line ≡ filled c.args.element c.args.more =
    ap (λ ns. Element inside.tag inside.attrs (forest_of (ns ++ c.args.more)) inside.line) (sym none) ∙ ap (λ n. filled n c.args.more) (sym inside.is) in
    subst (λ (n : Node). IfOk c.into_element.result (λ m. m ≡ n)) is c.into_element.ensures
