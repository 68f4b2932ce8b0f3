-- How many levels nodes have, where an element that breaks the rule on replacement texts counts as more levels than a tree may have.
use Rattle.std.proofs.Common.{◌≡◌, ℕ, ◌+◌, ◌≤◌, max, Bool, true, false, List, [], arith, refl, sym, ap, subst}
use Rattle.std.specs.Prelude.{if◌then◌else◌, nat_le}
use Rattle.std.proofs.lemmas.Bool.{and_parts, cond_both}
use Rattle.rst_tree.specs.declared.attrs.Attr.{Attr}
use Rattle.rst_tree.specs.declared.node.Node.{Node}
use Rattle.rst_tree.specs.declared.node.Node.TheVariants.{Element, Text}
use Rattle.rst_tree.specs.declared.tag.Tag.{Tag}
use Rattle.rst_tree.specs.declared.tag.Tag.TheVariants.{Reference, SubstitutionDefinition, SubstitutionReference, Target}
use Rattle.rst_tree.specs.Forest.{Forest, bare, element, words, height}
use Rattle.rst_tree.specs.Nodes.{children_in, node_height}
use Rattle.rst_tree.specs.Tree.{most_levels}
use Rattle.rst_block_nodes.specs.Targets.{may_stand_as}
use Rattle.rst_tree_index.specs.Parsed.{levels_by, AreFlat}
use Rattle.rst_tree_index.specs.Kinds.{is_substitution_reference}
use borrow.Author.Tests.{leb-true, le-leb}

-- ---- what they are

abbrev pub is_definition : Tag → Bool
is_definition SubstitutionDefinition = true
is_definition _ = false

-- an element of the kind may stand in a replacement text by some attributes: a target does if it refers to a name
abbrev pub may_stand_by : Tag → Forest → Bool
may_stand_by Target c = true
may_stand_by t c = may_stand_as t [] c

-- What is in an element has at most one level if the element may stand in a replacement text, and at most two if it is a definition, where each
-- substitution reference counts as two.
abbrev pub is_flat : Tag → Forest → Bool
is_flat t c = if may_stand_by t c then nat_le (levels_by 2 c) 1 else if is_definition t then nat_le (levels_by 2 c) 2 else true

-- an element's levels, by whether it is flat and by those in it
abbrev pub weighed : Bool → ℕ → ℕ
weighed true n = n + 1
weighed false n = max (n + 1) (most_levels + 1)

-- how deep the nodes nest, where an element that isn't flat counts as more levels than a tree may have
abbrev pub weight : Forest → ℕ
weight bare = 0
weight (element t a c l r) = max (weighed (is_flat t c) (weight c)) (weight r)
weight (words t r) = max 1 (weight r)

abbrev pub node_weight : Node → ℕ
node_weight (Element t a c l) = weighed (is_flat t c) (weight c)
node_weight (Text t) = 1

-- an element that may hold any nodes
abbrev pub Open : Tag → Type 0
Open t = (c : Forest) → is_flat t c ≡ true

abbrev pub HoldsAny : Node → Type 0
HoldsAny (Element t a c l) = Open t
HoldsAny (Text t) = Unit {0}

-- a substitution reference may not
pub open_plain : (t : Tag) → Open t → is_substitution_reference t ≡ false
open_plain SubstitutionReference h = sym (h (element SubstitutionReference [] bare 0 bare))
open_plain _ h = refl

pub open_counts : (t : Tag) (n : ℕ) → Open t → (if is_substitution_reference t then n else 0) ≡ 0
open_counts t n h = ap (λ b. if b then n else 0) (open_plain t h)

-- ---- elements

pub light_at : (t : Tag) (c : Forest) (j : ℕ) → is_flat t c ≡ true → weight c + 1 ≤ j → weighed (is_flat t c) (weight c) ≤ j
light_at t c j e h = rw e h

-- whatever its kind is
pub low_flat : (t : Tag) (c : Forest) → levels_by 2 c ≤ 1 → is_flat t c ≡ true
low_flat t c h =
    cond_both (may_stand_by t c) (nat_le (levels_by 2 c) 1) _ (λ b. b ≡ true) (λ _. le-leb (levels_by 2 c) 1 h)
    (λ _. cond_both (is_definition t) (nat_le (levels_by 2 c) 2) true (λ b. b ≡ true) (λ _. le-leb (levels_by 2 c) 2 (omega arith)) (λ _. refl))

-- ---- what it says of levels

pub weighed_more : (b : Bool) (n : ℕ) → n + 1 ≤ weighed b n
weighed_more true n = omega arith
weighed_more false n = omega arith

height_weight : (f : Forest) → height f ≤ weight f
height_weight bare = omega arith
height_weight (element t a c l r) = omega (arith, height_weight c, height_weight r, weighed_more (is_flat t c) (weight c))
height_weight (words t r) = omega (arith, height_weight r)

pub node_height_weight : (n : Node) → node_height n ≤ node_weight n
node_height_weight (Element t a c l) = omega (arith, height_weight c, weighed_more (is_flat t c) (weight c))
node_height_weight (Text t) = omega arith

pub weighed_most : (k : ℕ) (b : Bool) (n : ℕ) → n + 1 ≤ k → most_levels + 1 ≤ k → weighed b n ≤ k
weighed_most k true n h e = omega arith
weighed_most k false n h e = omega arith

pub weighed_flat : (k : ℕ) (b : Bool) (n : ℕ) → weighed b n ≤ k → k ≤ most_levels → b ≡ true
weighed_flat k true n h e = refl
weighed_flat k false n h e = absurd (omega arith)

weight_flat : (k : ℕ) (f : Forest) → weight f ≤ k → k ≤ most_levels → AreFlat 2 f
weight_flat k bare h e = tt
weight_flat k (element t a c l r) h e =
    let flat : is_flat t c ≡ true = weighed_flat k (is_flat t c) (weight c) (omega arith) e in
    let more = weighed_more (is_flat t c) (weight c) in
    (λ is. leb-true _ 2 (subst (λ t. is_flat t c ≡ true) is flat), weight_flat k c (omega arith) e, weight_flat k r (omega arith) e)
weight_flat k (words t r) h e = weight_flat k r (omega arith) e

pub node_flat : (k : ℕ) (n : Node) → node_weight n ≤ k → k ≤ most_levels → AreFlat 2 (children_in n)
node_flat k (Element t a c l) h e = weight_flat k c (omega (arith, weighed_more (is_flat t c) (weight c))) e
node_flat k (Text t) h e = tt

-- what stands in a replacement text may do so by its kind
pub stands_by : (t : Tag) (a : List Attr) (c : Forest) → may_stand_as t a c ≡ true → may_stand_by t c ≡ true
stands_by Reference a c m = (and_parts _ _ m).1
stands_by Target a c m = refl
stands_by _ a c m = m
