-- A node fits just where the levels suffice, and it is sound.
use Rattle.std.proofs.Common.{◌≡◌, ℕ, ◌+◌, ◌-◌, ◌≤◌, ◌<◌, List, [], ◌∷◌, ◌++◌, length, arith, zero, suc, refl, sym, ◌∙◌, ap, Bool, true, false, nat_le}
use Rattle.std.proofs.lemmas.Bool.{and_parts, and_from, lt-leb}
use Rattle.std.specs.Prelude.{◌&&◌, option_and_then, slice_get}
use Rattle.rst_tree.specs.declared.node.Node.{Node}
use Rattle.rst_tree.specs.declared.node.Node.TheVariants.{Element, Text}
use Rattle.rst_tree.specs.Nodes.{nodes_of, node_height}
use Rattle.rst_tree.specs.Paths.{node_at, map_at, changed_at, with_child}
use Rattle.rst_tree.specs.Tree.{is_sound_node, is_tree, is_tree_within, fits, is_element, most_levels}
use Rattle.rst_tree.specs.Law.{FitsWithinLevels}
use Rattle.rst_tree.proofs.Fitting.{Within, NodeWithin, within_parts, pushed_tree}

last_within : (m : ℕ) (x : Node) (ns : List Node) → Within m (ns ++ x ∷ []) → NodeWithin m x
last_within m x [] h = (within_parts m x [] h).0
last_within m x (n ∷ ns) h = last_within m x ns (within_parts m n (ns ++ x ∷ []) h).1

-- what a change of one of some nodes that keep within the levels implies
changed_fits : (f : Node → Node) (at : List ℕ) (P : Type 0) (m i : ℕ) (ns : List Node) → ((n : Node) → is_element (node_at at n) ≡ true → NodeWithin m (f n) → P)
    → is_element (option_and_then (node_at at) (slice_get ns i)) ≡ true → Within m (map_at f i ns) → P
changed_fits f at P m i [] tells h k = cc
changed_fits f at P m zero (n ∷ ns) tells h k = tells n h (within_parts m (f n) ns k).0
changed_fits f at P m (suc i) (n ∷ ns) tells h k = changed_fits f at P m i ns tells h (within_parts m n (map_at f i ns) k).1

-- the node that is pushed reaches below its path, and is sound
pushed_within : (x : Node) (at : List ℕ) (m : ℕ) (n : Node) → is_element (node_at at n) ≡ true → NodeWithin m (changed_at (with_child x) at n)
    → (length at + 1 + node_height x ≤ m) × (is_sound_node x ≡ true)
pushed_within x [] m (Element t a c l) h k =
    let last = last_within (m - 1) x (nodes_of c) (omega (arith, k.0), k.1) in (omega (arith, last.0, k.0), last.1)
pushed_within x (i ∷ at) m (Element t a c l) h k =
    let P : Type 0 = (length at + 1 + node_height x ≤ m - 1) × (is_sound_node x ≡ true) in
    let low : P = changed_fits (changed_at (with_child x) at) at P (m - 1) i (nodes_of c) (λ n g j. pushed_within x at (m - 1) n g j) h (omega (arith, k.0), k.1) in
    (omega (arith, low.0, k.0), low.1)
pushed_within x [] m (Text t) h k = absurd (cc)
pushed_within x (i ∷ at) m (Text t) h k = absurd (cc)

same_test : (a b : Bool) → (a ≡ true → b ≡ true) → (b ≡ true → a ≡ true) → a ≡ b
same_test true b to from = sym (to refl)
same_test false true to from = from refl
same_test false false to from = refl

-- where an element is at the path
pub fits_within_levels : FitsWithinLevels
fits_within_levels at node root is there =
    let new = changed_at (with_child node) at root in
    same_test (fits at node root) (nat_le (length at + 1 + node_height node) most_levels && is_sound_node node)
    (λ h.
    let tree = and_parts (is_element (node_at at root)) (is_tree new) h in
    let tree_within = and_parts (nat_le (node_height new) most_levels) (is_sound_node new) tree.1 in
    let low = pushed_within node at most_levels root there (grind (arith, tree_within.0), tree_within.1) in
    and_from _ _ (grind (arith, low.0)) low.1)
    (λ h.
    let room = and_parts (nat_le (length at + 1 + node_height node) most_levels) (is_sound_node node) h in
    and_from _ _ there (pushed_tree at node root is (grind (arith, room.0)) room.1))

-- by the levels that are left at the path
pub fits_inside : (at : List ℕ) (node root : Node) (b : Bool) → is_tree root ≡ true → is_element (node_at at root) ≡ true → length at < most_levels
    → b ≡ is_tree_within node (most_levels - 1 - length at) → b ≡ fits at node root
fits_inside at node root b is there below tree_within =
    let e : nat_le (node_height node) (most_levels - 1 - length at) ≡ nat_le (length at + 1 + node_height node) most_levels = grind arith in
    tree_within ∙ ap (λ z. z && is_sound_node node) e ∙ sym (fits_within_levels at node root is there)

pub fits_none : (at : List ℕ) (node root : Node) → is_tree root ≡ true → is_element (node_at at root) ≡ true → most_levels ≤ length at → false ≡ fits at node root
fits_none at node root is there past =
    let e : nat_le (length at + 1 + node_height node) most_levels ≡ false = lt-leb (length at + 1 + node_height node) most_levels (omega arith) in
    sym (fits_within_levels at node root is there ∙ ap (λ z. z && is_sound_node node) e)
