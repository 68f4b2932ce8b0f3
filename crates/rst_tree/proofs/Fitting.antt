-- Changes that keep a tree a tree.
use Rattle.std.proofs.Common.{◌≡◌, ℕ, ◌+◌, ◌-◌, ◌≤◌, ◌<◌, List, [], ◌∷◌, ◌++◌, length, arith, zero, suc, refl, sym, ◌∙◌, ap, subst, true, max, nat_le}
use Rattle.std.proofs.Common.{drop, get_or, add-one, take}
use Rattle.std.proofs.lemmas.Bool.{and_parts, and_from}
use Rattle.std.specs.List.{flat_map}
use Rattle.std.proofs.lemmas.List.{take_all}
use Rattle.std.specs.Prelude.{◌&&◌, Option, None, option_and_then, slice_get}
use Rattle.rst_tree.specs.declared.attrs.Attr.{Attr}
use Rattle.rst_tree.specs.declared.tag.Tag.{Tag}
use Rattle.std.proofs.Math.Seq.{drop-cons}
use Rattle.rst_tree.specs.declared.node.Node.{Node}
use Rattle.rst_tree.specs.declared.node.Node.TheVariants.{Element, Text}
use Rattle.rst_tree.specs.Forest.{Forest, height}
use Rattle.rst_tree.specs.Nodes.{forest_of, nodes_of, node_height}
use Rattle.rst_tree.specs.declared.attrs.Value.{Value}
use Rattle.rst_tree.specs.declared.key.Key.{Key}
use Rattle.rst_tree.proofs.Changes.{forest_of-nodes_of, nodes_of-forest_of, slice_get-some, slice_get-none}
use Rattle.rst_tree.specs.Paths.{node_at, map_at, changed_at, with_child, with_value}
use Rattle.rst_tree.specs.Tree.{is_sound, is_sound_node, is_tree, fits, is_element, most_levels, text_all, text_in}

pub height-cons : (n : Node) (ns : List Node) → height (forest_of (n ∷ ns)) ≡ max (node_height n) (height (forest_of ns))
height-cons (Element t a c l) ns = refl
height-cons (Text t) ns = refl

pub sound-cons : (n : Node) (ns : List Node) → is_sound (forest_of (n ∷ ns)) ≡ (is_sound_node n && is_sound (forest_of ns))
sound-cons (Element t a c l) ns = refl
sound-cons (Text t) ns = refl

-- nodes, or one node, that nest no deeper than a number of levels, and are sound
abbrev pub Within : ℕ → List Node → Type 0
Within m ns = (height (forest_of ns) ≤ m) × (is_sound (forest_of ns) ≡ true)

abbrev pub NodeWithin : ℕ → Node → Type 0
NodeWithin m n = (node_height n ≤ m) × (is_sound_node n ≡ true)

pub within_parts : (m : ℕ) (n : Node) (ns : List Node) → Within m (n ∷ ns) → NodeWithin m n × Within m ns
within_parts m n ns h =
    let e = height-cons n ns in
    let k = and_parts _ _ (sym (sound-cons n ns) ∙ h.1) in ((omega (arith, h.0), k.0), (omega (arith, h.0), k.1))

within_cons : (m : ℕ) (n : Node) (ns : List Node) → NodeWithin m n → Within m ns → Within m (n ∷ ns)
within_cons m n ns h k = let e = height-cons n ns in (omega (arith, h.0, k.0), sound-cons n ns ∙ and_from _ _ h.1 k.1)

-- a change of one node that keeps all within the levels
within-map_at : (f : Node → Node) (i m : ℕ) (ns : List Node) → ((n : Node) → NodeWithin m n → NodeWithin m (f n)) → Within m ns → Within m (map_at f i ns)
within-map_at f i m [] keeps h = h
within-map_at f zero m (n ∷ ns) keeps h = let k = within_parts m n ns h in within_cons m (f n) ns (keeps n k.0) k.1
within-map_at f (suc i) m (n ∷ ns) keeps h = let k = within_parts m n ns h in within_cons m n (map_at f i ns) k.0 (within-map_at f i m ns keeps k.1)

within-push : (m : ℕ) (x : Node) (ns : List Node) → Within m ns → NodeWithin m x → Within m (ns ++ x ∷ [])
within-push m x [] h k = within_cons m x [] k h
within-push m x (n ∷ ns) h k = let j = within_parts m n ns h in within_cons m n (ns ++ x ∷ []) j.0 (within-push m x ns j.1 k)

-- what is in an element
inside : (m : ℕ) (t : Tag) (a : List Attr) (c : Forest) (l : ℕ) → NodeWithin m (Element t a c l) → Within (m - 1) (nodes_of c)
inside m t a c l h = let e = forest_of-nodes_of c in (rw e (omega (arith, h.0)), ap is_sound e ∙ h.1)

-- a change of the node at a path
within-changed : (f : Node → Node) (at : List ℕ) (m : ℕ) (n : Node) → ((n : Node) → NodeWithin (m - length at) n → NodeWithin (m - length at) (f n)) → NodeWithin m n → NodeWithin m (changed_at f at n)
within-changed f [] m n keeps h = let k = keeps n (omega (arith, h.0), h.1) in (omega (arith, k.0), k.1)
within-changed f (i ∷ at) m (Text t) keeps h = h
within-changed f (i ∷ at) m (Element t a c l) keeps h =
    let j : m - length (i ∷ at) ≡ (m - 1) - length at = omega arith in
    let kept = subst (λ b. (n : Node) → NodeWithin b n → NodeWithin b (f n)) j keeps in
    let top = within-map_at (changed_at f at) i (m - 1) (nodes_of c) (λ n g. within-changed f at (m - 1) n kept g) (inside m t a c l h) in
    (omega (arith, h.0, top.0), top.1)

within-with_child : (x : Node) (m : ℕ) → node_height x + 1 ≤ m → is_sound_node x ≡ true → (n : Node) → NodeWithin m n → NodeWithin m (with_child x n)
within-with_child x m k s (Text t) h = h
within-with_child x m k s (Element t a c l) h =
    let top = within-push (m - 1) x (nodes_of c) (inside m t a c l h) (omega arith, s) in
    (omega (arith, h.0, top.0), top.1)

within-with_value : (k : Key) (v : Value) (m : ℕ) (n : Node) → NodeWithin m n → NodeWithin m (with_value k v n)
within-with_value k v m (Text t) h = h
within-with_value k v m (Element t a c l) h = h

-- the rest of a path, one place further
drop_at : (at : List ℕ) (i : ℕ) → i < length at → drop i at ≡ get_or at i 0 ∷ drop (i + 1) at
drop_at at i fits = rw add-one (drop-cons at i 0 fits)

found_child : (at : List ℕ) (i : ℕ) (node : Node) (t : Tag) (a : List Attr) (c : Forest) (l : ℕ) (ns : List Node) (r : Option Node) → i < length at → node ≡ Element t a c l → c ≡ forest_of ns
    → node_at (drop i at) node ≡ r → option_and_then (node_at (drop (i + 1) at)) (slice_get ns (get_or at i 0)) ≡ r
found_child at i node t a c l ns r fits is nodes h = rw (drop_at at i fits, is, nodes, nodes_of-forest_of ns) at h

pub found_more : (at : List ℕ) (i : ℕ) (node child : Node) (t : Tag) (a : List Attr) (c : Forest) (l : ℕ) (ns : List Node) (r : Option Node) → i < length at → node ≡ Element t a c l → c ≡ forest_of ns
    → node_at (drop i at) node ≡ r → get_or at i 0 < length ns → child ≡ get_or ns (get_or at i 0) child → node_at (drop (i + 1) at) child ≡ r
found_more at i node child t a c l ns r fits is nodes h there at_ =
    ap (node_at (drop (i + 1) at)) at_ ∙ ap (option_and_then (node_at (drop (i + 1) at))) (sym (slice_get-some ns (get_or at i 0) child there)) ∙ found_child at i node t a c l ns r fits is nodes h

pub found_past : (at : List ℕ) (i : ℕ) (node : Node) (t : Tag) (a : List Attr) (c : Forest) (l : ℕ) (ns : List Node) (r : Option Node) → i < length at → node ≡ Element t a c l → c ≡ forest_of ns
    → node_at (drop i at) node ≡ r → length ns ≤ get_or at i 0 → r ≡ None
found_past at i node t a c l ns r fits is nodes h past =
    sym (found_child at i node t a c l ns r fits is nodes h) ∙ ap (option_and_then (node_at (drop (i + 1) at))) (slice_get-none ns (get_or at i 0) past)

pub found_none : (at : List ℕ) (i : ℕ) (node : Node) (t : List ℕ) (r : Option Node) → i < length at → node ≡ Text t → node_at (drop i at) node ≡ r → r ≡ None
found_none at i node t r fits is h = sym (rw (drop_at at i fits, is) at h)

-- a tree with a change at a path that keeps it sound, and the nodes within the levels that are left there
changed_tree : (f : Node → Node) (at : List ℕ) (root new : Node) → is_tree root ≡ true → new ≡ changed_at f at root
    → ((n : Node) → NodeWithin (most_levels - length at) n → NodeWithin (most_levels - length at) (f n)) → is_tree new ≡ true
changed_tree f at root new is changed keeps =
    let tree = and_parts (nat_le (node_height root) most_levels) (is_sound_node root) is in
    let within : node_height root ≤ most_levels = grind (arith, tree.0) in
    let top = within-changed f at most_levels root keeps (within, tree.1) in
    let holds : nat_le (node_height (changed_at f at root)) most_levels ≡ true = grind (arith, top.0) in
    ap is_tree changed ∙ and_from _ _ holds top.1

-- a tree with a node pushed for which the levels suffice is a tree
pub pushed_tree : (at : List ℕ) (x root : Node) → is_tree root ≡ true → length at + 1 + node_height x ≤ most_levels → is_sound_node x ≡ true → is_tree (changed_at (with_child x) at root) ≡ true
pushed_tree at x root is room sound =
    let fit : node_height x + 1 ≤ most_levels - length at = omega arith in
    changed_tree (with_child x) at root (changed_at (with_child x) at root) is refl (within-with_child x (most_levels - length at) fit sound)

-- a tree with a node that fits pushed is a tree
pub fitted_tree : (at : List ℕ) (x root new : Node) → fits at x root ≡ true → new ≡ changed_at (with_child x) at root → is_tree new ≡ true
fitted_tree at x root new room changed = ap is_tree changed ∙ (and_parts (is_element (node_at at root)) _ room).1

-- a tree with an attribute set is a tree
pub set_tree : (at : List ℕ) (k : Key) (v : Value) (root new : Node) → is_tree root ≡ true → new ≡ changed_at (with_value k v) at root → is_tree new ≡ true
set_tree at k v root new is changed = changed_tree (with_value k v) at root new is changed (within-with_value k v (most_levels - length at))

-- the text of nodes, node by node
pub text-nodes : (ns : List Node) → text_all (forest_of ns) ≡ flat_map text_in ns
text-nodes [] = refl
text-nodes (Element t a c l ∷ ns) = ap (λ z. text_all c ++ z) (text-nodes ns)
text-nodes (Text t ∷ ns) = ap (λ z. t ++ z) (text-nodes ns)

pub text_whole : (node : Node) (t : Tag) (a : List Attr) (c : Forest) (l : ℕ) (ns : List Node) (i : ℕ) (old now : List ℕ) → node ≡ Element t a c l → c ≡ forest_of ns → length ns ≤ i
    → now ≡ old ++ flat_map text_in (take i ns) → now ≡ old ++ text_in node
text_whole node t a c l ns i old now is nodes all h = h ∙ (rw (is, nodes, take_all i ns all) (ap (λ z. old ++ z) (sym (text-nodes ns))))
