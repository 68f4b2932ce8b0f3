use Rattle.std.proofs.Common.{◌≡◌, ◌++◌, Ok, true, arith, rules, refl, sym, ap, ◌∙◌}
use Rattle.std.proofs.lemmas.Grind.{common_steps}
use Rattle.rst_tree.specs.Nodes.{nodes_of}
use Rattle.rst_transform_substitutions.specs.Definitions.{found_by}
use Rattle.rst_tree_index.specs.Kinds.{is_substitution_reference}
use Rattle.rst_transform_substitutions.specs.Expansion.{expanded_copies, given, refname_of, size_of}
use Rattle.rst_transform_substitutions.proofs.Expanding.{copied_more}
use Rattle.rst_transform_substitutions.specs.Sizes.{content_last}
use Rattle.rst_transform_substitutions.proofs.expansion.+add_expanded.Goals as goal

pub loop-node-preserved-in-Some : goal.loop-node-preserved-in-Some
loop-node-preserved-in-Some t c =
    let path = c.entered.new.progress.path.items in
    let copied : expanded_copies (given (found_by c.args.definitions.now) path) (content_last c.args.definitions.now path) c.entered.new.progress.left ≡ Ok (nodes_of c.in-Some.copy.now, c.copy-then-is_substitution_reference.new.self.left) =
    rw (c.in-Some.is) at c.in_ok-copy-in-Element.ensures.copy in
    let reference = given (found_by c.args.definitions.now) c.args.progress.now.path.items in
    let here : reference (refname_of c.in-Element.attrs) c.visit.new.self.left ≡ Ok (nodes_of c.in-Some.copy.now, c.copy-then-is_substitution_reference.new.self.left) = grind (arith, common_steps, copied, c.loop-node.invariant.path) in
    let added : c.append.new.self.items ≡ c.loop-node.nodes.items ++ nodes_of c.in-Some.copy.now = search (rules, ap nodes_of c.in_ok-copies-in-Element.ensures) in
    let counted = c.visit.ensures.left c.if-not-visit.false in
    let is : is_substitution_reference c.in-Element.tag ≡ true = sym c.is_substitution_reference.ensures ∙ c.if-is_substitution_reference.true in
    let one : size_of c.node-item.result ≡ 1 = rw c.in-Element.is refl in
    record {
      nodes = copied_more reference c.loop-node.nodes.items (nodes_of c.in-Some.copy.now) c.append.new.self.items c.as_slice-node-items.result.now c.loop-node.node-index c.node-item.result c.in-Element.tag c.in-Element.attrs c.in-Element.children c.in-Element.line c.loop-node.progress.left c.visit.new.self.left c.copy-then-is_substitution_reference.new.self.left
          c.in-Element.is c.node-item.is c.loop-node-test.true is (omega (arith, one, counted)) here added ∙ c.loop-node.invariant.nodes;
      path = search rules;
      left = omega (arith, counted, c.in_ok-inner-in-Element.ensures.left, c.in_ok-copy-in-Element.ensures.left, c.loop-node.invariant.left);
    }

pub returns-in_err-add_expanded-in-Element-clause-nodes : goal.returns-in_err-add_expanded-in-Element-clause-nodes
returns-in_err-add_expanded-in-Element-clause-nodes t c =
    let stays : c.copy-then-is_substitution_reference.new.self.left ≡ c.entered.new.progress.left = rw (c.in_default.is) at c.in_ok-copy-in-Element.ensures.copy in
    grind (arith, common_steps, stays)

pub loop-node-preserved-then-is_substitution_reference : goal.loop-node-preserved-then-is_substitution_reference
loop-node-preserved-then-is_substitution_reference t c =
    let stays : c.copy-then-is_substitution_reference.new.self.left ≡ c.entered.new.progress.left = rw (c.in_default.is) at c.in_ok-copy-in-Element.ensures.copy in
    let counted = c.visit.ensures.left c.if-not-visit.false in
    record {
      nodes = grind (arith, common_steps, stays);
      path = search rules;
      left = omega (arith, stays, counted, c.in_ok-inner-in-Element.ensures.left, c.in_ok-add_expanded-in-Element.ensures.left, c.loop-node.invariant.left);
    }
