-- Changes of a node at a path.
use Rattle.std.proofs.Common.{◌≡◌, ℕ, ◌<◌, List, [], ◌∷◌, length, set, get_or, zero, suc, Option, refl, sym, ◌∙◌, ap, arith}
use Rattle.rst_tree.specs.declared.attrs.Attr.{Attr}
use Rattle.rst_tree.specs.declared.tag.Tag.{Tag}
use Rattle.rst_tree.specs.declared.node.Node.{Node}
use Rattle.rst_tree.specs.declared.node.Node.TheVariants.{Element, Text}
use Rattle.rst_tree.specs.Forest.{Forest, bare, element, words}
use Rattle.rst_tree.specs.Nodes.{forest_of, nodes_of}
use Rattle.std.specs.Prelude.{IsSomeAnd, option_and_then, slice_get}
pub use Rattle.std.proofs.lemmas.Option.{slice_get_past as slice_get-none, slice_get-get_or as slice_get-some}
use Rattle.rst_tree.specs.Paths.{map_at, changed_at, node_at, IsElement}

pub nodes_of-forest_of : (ns : List Node) → nodes_of (forest_of ns) ≡ ns
nodes_of-forest_of [] = refl
nodes_of-forest_of (Element t a c l ∷ ns) = ap (λ xs. Element t a c l ∷ xs) (nodes_of-forest_of ns)
nodes_of-forest_of (Text t ∷ ns) = ap (λ xs. Text t ∷ xs) (nodes_of-forest_of ns)

pub forest_of-nodes_of : (f : Forest) → forest_of (nodes_of f) ≡ f
forest_of-nodes_of bare = refl
forest_of-nodes_of (element t a c l r) = ap (element t a c l) (forest_of-nodes_of r)
forest_of-nodes_of (words t r) = ap (words t) (forest_of-nodes_of r)

-- the nodes that a forest is made of
pub nodes_are : (ns : List Node) (f : Forest) → forest_of ns ≡ f → ns ≡ nodes_of f
nodes_are ns f is = sym (nodes_of-forest_of ns) ∙ ap nodes_of is

pub map_at-set : {X : Type 0} (f : X → X) (i : ℕ) (xs : List X) (d : X) → i < length xs → map_at f i xs ≡ set xs i (f (get_or xs i d))
map_at-set f i [] d h = absurd (omega arith)
map_at-set f zero (x ∷ xs) d h = refl
map_at-set f (suc i) (x ∷ xs) d h = let k : i < length xs = omega arith in ap (λ ys. x ∷ ys) (map_at-set f i xs d k)

-- a child that is there
there : (f : Node → Option Node) (P : Node → Type 0) (ns : List Node) (i : ℕ) → IsSomeAnd (option_and_then f (slice_get ns i)) P → (i < length ns) × ((d : Node) → IsSomeAnd (f (get_or ns i d)) P)
there f P [] i h = absurd h
there f P (n ∷ ns) zero h = (omega arith, λ d. h)
there f P (n ∷ ns) (suc i) h = let k = there f P ns i h in (omega (arith, k.0), k.1)

-- a path into an element leads to one of its nodes
pub child_there : (node : Node) (t : Tag) (a : List Attr) (c : Forest) (l : ℕ) (ns : List Node) (at rest : List ℕ) (first : ℕ) (P : Node → Type 0) → node ≡ Element t a c l → forest_of ns ≡ c → at ≡ first ∷ rest
    → IsSomeAnd (node_at at node) P → (first < length ns) × ((d : Node) → IsSomeAnd (node_at rest (get_or ns first d)) P)
child_there node t a c l ns at rest first P is nodes parts h =
    there (node_at rest) P ns first (rw (is, parts, ← nodes, nodes_of-forest_of ns) at h)

-- the change of one of its nodes
pub child_changed : (f : Node → Node) (node : Node) (t : Tag) (a : List Attr) (c : Forest) (l : ℕ) (ns : List Node) (at rest : List ℕ) (first : ℕ) (d new : Node) → node ≡ Element t a c l → forest_of ns ≡ c → at ≡ first ∷ rest
    → first < length ns → new ≡ changed_at f rest (get_or ns first d) → Element t a (forest_of (set ns first new)) l ≡ changed_at f at node
child_changed f node t a c l ns at rest first d new is nodes parts fits changed =
    rw (is, parts, ← nodes, nodes_of-forest_of ns, map_at-set (changed_at f rest) first ns d fits, changed) refl

-- no path leads through a text to an element
pub no_text : (at : List ℕ) (node : Node) (t : List ℕ) → node ≡ Text t → IsSomeAnd (node_at at node) IsElement → ⊥
no_text [] node t is h = rw is at h
no_text (i ∷ rest) node t is h = rw is at h
