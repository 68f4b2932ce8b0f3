use Rattle.std.proofs.Common.{◌≡◌, drop, ◌+◌, ◌≤◌, true, false, arith, ap, refl, rules, sym, ◌∙◌}
use Rattle.std.proofs.lemmas.List.{drop_all}
use Rattle.rst_tree.specs.Forest.{height}
use Rattle.rst_tree.specs.Nodes.{forest_of}
use Rattle.rst_tree.proofs.PrintedParts.{inside_lower}
use Rattle.rst_tree_index.specs.Kinds.{is_substitution_reference}
use Rattle.rst_transform_substitutions.specs.Definitions.{found_by}
use Rattle.rst_transform_substitutions.specs.Expansion.{given_within, refname_of, remaining_visits, size_of}
use Rattle.rst_transform_substitutions.specs.Sizes.{and_then, takes, IsSizeOfReference}
use Rattle.rst_transform_substitutions.proofs.Sizing.{and_then_ok, element_counted, element_first, ends_none, ends_some, left_inside, remaining, takes_then}
use Rattle.rst_transform_substitutions.proofs.sizes.+add_size.Goals as goal

pub add_size-requires : goal.add_size-requires
add_size-requires t c =
    let h : height c.in-Element.children + 1 ≤ height c.args.nodes.now =
    inside_lower c.node-item.result c.in-Element.tag c.in-Element.attrs c.in-Element.children c.args.nodes.now c.in-Element.line c.as_slice-node-items.result.now c.loop-node.node-index
    c.in-Element.is c.as_slice-node-items.ensures c.node-item.is c.loop-node-test.true in
    search (rules, h)

pub returns-then-is_some-clause-size : goal.returns-then-is_some-clause-size
returns-then-is_some-clause-size t c = λ more left path above small.
    let given = given_within (found_by c.args.definitions.now) more path in
    let one : size_of c.node-item.result ≡ 1 = rw c.in-Element.is refl in
    let other : is_substitution_reference c.in-Element.tag ≡ false = sym c.is_substitution_reference.ensures ∙ c.if-not-is_substitution_reference.true in
    let first = element_first c.node-item.result c.in-Element.tag c.in-Element.attrs c.in-Element.children c.in-Element.line c.as_slice-node-items.result.now c.loop-node.node-index c.in-Element.is c.node-item.is c.loop-node-test.true in
    ends_some c.in_ok-stuck.stuck given (takes c.add_size.new.size more left) _ _ (remaining given (forest_of (drop (c.loop-node.node-index + 1) c.as_slice-node-items.result.now))) (search (rules, c.if-is_some.true))
    (c.loop-node.invariant.size more left path (λ p one there whole low. above p one there whole (omega (arith, low, c.in_ok-stuck.ensures.nested))) small
    ∙ ap (λ f. and_then (takes c.loop-node.size more left) (remaining given f)) first
    ∙ element_counted given more left c.loop-node.size (record { visited = c.saturating_add-size.result; nested = c.loop-node.size.nested }) c.in-Element.tag c.in-Element.attrs c.in-Element.children _ c.in-Element.line (remaining given c.in-Element.children)
    (λ m. rw (other) (left_inside c.in-Element.tag c.in-Element.attrs c.in-Element.line _)) small (omega (arith, one, c.characters_in.ensures, c.saturating_add.ensures, c.saturating_add-size.ensures)) refl)
    (c.in_ok-stuck.ensures.size more left path above small)

pub loop-node-preserved-then-not-is_substitution_reference : goal.loop-node-preserved-then-not-is_substitution_reference
loop-node-preserved-then-not-is_substitution_reference t c = record {
  size = λ more left path above small.
      let given = given_within (found_by c.args.definitions.now) more path in
      let one : size_of c.node-item.result ≡ 1 = rw c.in-Element.is refl in
      let other : is_substitution_reference c.in-Element.tag ≡ false = sym c.is_substitution_reference.ensures ∙ c.if-not-is_substitution_reference.true in
      let first = element_first c.node-item.result c.in-Element.tag c.in-Element.attrs c.in-Element.children c.in-Element.line c.as_slice-node-items.result.now c.loop-node.node-index c.in-Element.is c.node-item.is c.loop-node-test.true in
      c.loop-node.invariant.size more left path (λ p one there whole low. above p one there whole (omega (arith, low, c.in_ok-stuck.ensures.nested))) small
      ∙ ap (λ f. and_then (takes c.loop-node.size more left) (remaining given f)) first
      ∙ element_counted given more left c.loop-node.size (record { visited = c.saturating_add-size.result; nested = c.loop-node.size.nested }) c.in-Element.tag c.in-Element.attrs c.in-Element.children _ c.in-Element.line (remaining given c.in-Element.children)
      (λ m. rw (other) (left_inside c.in-Element.tag c.in-Element.attrs c.in-Element.line _)) small (omega (arith, one, c.characters_in.ensures, c.saturating_add.ensures, c.saturating_add-size.ensures)) refl
      ∙ ap (λ v. and_then v (remaining given (forest_of (drop (c.loop-node.node-index + 1) c.as_slice-node-items.result.now))))
      (ends_none c.in_ok-stuck.stuck given _ _ (search (rules, c.if-is_some.false)) (c.in_ok-stuck.ensures.size more left path above small));
  nested = omega (arith, c.loop-node.invariant.nested, c.in_ok-stuck.ensures.nested);
}

pub returns-in_default-2-clause-size : goal.returns-in_default-2-clause-size
returns-in_default-2-clause-size t c = λ more left path above small fault fails.
    let given = given_within (found_by c.args.definitions.now) more path in
    let one : size_of c.node-item.result ≡ 1 = rw c.in-Element.is refl in
    let is : is_substitution_reference c.in-Element.tag ≡ true = sym c.is_substitution_reference.ensures ∙ c.if-not-is_substitution_reference.false in
    let first = element_first c.node-item.result c.in-Element.tag c.in-Element.attrs c.in-Element.children c.in-Element.line c.as_slice-node-items.result.now c.loop-node.node-index c.in-Element.is c.node-item.is c.loop-node-test.true in
    c.loop-node.invariant.size more left path above small
    ∙ ap (λ f. and_then (takes c.loop-node.size more left) (remaining given f)) first
    ∙ element_counted given more left c.loop-node.size (record { visited = c.saturating_add-size.result; nested = c.loop-node.size.nested }) c.in-Element.tag c.in-Element.attrs c.in-Element.children _ c.in-Element.line (λ m. remaining_visits (given (refname_of c.in-Element.attrs) m))
    (λ m. rw (is) refl) small (omega (arith, one, c.characters_in.ensures, c.saturating_add.ensures, c.saturating_add-size.ensures)) refl
    ∙ ap (λ v. and_then v (remaining given (forest_of (drop (c.loop-node.node-index + 1) c.as_slice-node-items.result.now)))) (rw (c.in_ok-stuck-2.ensures, c.text_or_empty-name.ensures) at fails)

pub loop-node-preserved : goal.loop-node-preserved
loop-node-preserved t c =
    let inner : IsSizeOfReference c.args.definitions.now c.text_or_empty-name.result.now c.in-Some.inner = rw c.in-Some.is at c.in_ok-inner.ensures in
    record {
      size = λ more left path above small.
          let given = given_within (found_by c.args.definitions.now) more path in
          let one : size_of c.node-item.result ≡ 1 = rw c.in-Element.is refl in
          let is : is_substitution_reference c.in-Element.tag ≡ true = sym c.is_substitution_reference.ensures ∙ c.if-not-is_substitution_reference.false in
          let first = element_first c.node-item.result c.in-Element.tag c.in-Element.attrs c.in-Element.children c.in-Element.line c.as_slice-node-items.result.now c.loop-node.node-index c.in-Element.is c.node-item.is c.loop-node-test.true in
          c.loop-node.invariant.size more left path (λ p one there whole low. above p one there whole (omega (arith, low))) small
          ∙ ap (λ f. and_then (takes c.loop-node.size more left) (remaining given f)) first
          ∙ element_counted given more left c.loop-node.size (record { visited = c.saturating_add-size.result; nested = c.loop-node.size.nested }) c.in-Element.tag c.in-Element.attrs c.in-Element.children _ c.in-Element.line (λ m. remaining_visits (given (refname_of c.in-Element.attrs) m))
          (λ m. rw (is) refl) small (omega (arith, one, c.characters_in.ensures, c.saturating_add.ensures, c.saturating_add-size.ensures)) refl
          ∙ ap (λ v. and_then v (remaining given (forest_of (drop (c.loop-node.node-index + 1) c.as_slice-node-items.result.now))))
          (takes_then (record { visited = c.saturating_add-size.result; nested = c.loop-node.size.nested }) c.in-Some.inner _ more left _
          (λ m low. rw (c.text_or_empty-name.ensures) at (inner more m path (λ p one there whole low. above p one there whole (omega (arith, low))) low)) small (omega arith) (omega arith));
      nested = omega (arith, c.loop-node.invariant.nested);
    }

pub returns-clause-size : goal.returns-clause-size
returns-clause-size t c = λ more left path above small.
    let given = given_within (found_by c.args.definitions.now) more path in
    c.loop-node.invariant.size more left path above small
    ∙ ap (λ ns. and_then (takes c.loop-node.size more left) (remaining given (forest_of ns))) (drop_all c.loop-node.node-index c.as_slice-node-items.result.now c.loop-node-test.false)
    ∙ and_then_ok (takes c.loop-node.size more left)
