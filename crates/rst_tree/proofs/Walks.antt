-- A walk changes the elements in place as defined.
use Rattle.std.proofs.Common.{◌≡◌, ℕ, ◌+◌, ◌<◌, List, [], ◌∷◌, ◌++◌, ◌≤◌, length, take, drop, get_or, set, length-set, arith, append_assoc, append-nil, add-zero, refl, sym, ◌∙◌, ap}
use Rattle.std.proofs.lemmas.List.{drop-drop, take_more_set, drop-set-lt, drop_all, take_all, get_or-drop}
use Rattle.rst_tree.proofs.Changes.{nodes_of-forest_of, forest_of-nodes_of}
use Rattle.rst_tree.proofs.EachNode.{drop_item}
use Rattle.rst_tree.specs.declared.attrs.Attr.{Attr}
use Rattle.rst_tree.specs.declared.tag.Tag.{Tag}
use Rattle.rst_tree.specs.declared.node.Node.{Node}
use Rattle.rst_tree.specs.declared.node.Node.TheVariants.{Element, Text}
use Rattle.rst_tree.specs.Forest.{Forest, height}
use Rattle.rst_tree.specs.Nodes.{forest_of, nodes_of, join_node, node_height}
use Rattle.rst_tree.proofs.PrintedParts.{node_height-le}
use Rattle.rst_tree.specs.Walk.{Item, item, items, node_items, after, walked, walked_node}

pub same_item : {X : Type 0} (i : ℕ) (xs ys : List X) (d : X) → drop i xs ≡ drop i ys → get_or xs i d ≡ get_or ys i d
same_item i xs ys d same =
    let e : get_or (drop i xs) 0 d ≡ get_or xs i d = rw add-zero at (get_or-drop i xs 0 d) in
    let f : get_or (drop i ys) 0 d ≡ get_or ys i d = rw add-zero at (get_or-drop i ys 0 d) in
    sym e ∙ ap (λ zs. get_or zs 0 d) same ∙ f

pub nodes_of-join : (n : Node) (f : Forest) → nodes_of (join_node n f) ≡ n ∷ nodes_of f
nodes_of-join (Element t a c l) f = refl
nodes_of-join (Text t) f = refl

-- nodes that are changed one after the other: those from a place on are as they were
pub record Same (old now : Forest) (i : ℕ) : Type 0 where
  pub same_len : length (nodes_of now) ≡ length (nodes_of old)
  pub rest : drop i (nodes_of now) ≡ drop i (nodes_of old)

pub Same-init : (f : Forest) → Same f f 0
Same-init f = record { same_len = refl; rest = refl }

pub Same-more : (old now : Forest) (i : ℕ) (new : Node) → Same old now i → i < length (nodes_of now) → Same old (forest_of (set (nodes_of now) i new)) (i + 1)
Same-more old now i new same fits =
    let ns = nodes_of now in
    let set_is : nodes_of (forest_of (set ns i new)) ≡ set ns i new = nodes_of-forest_of (set ns i new) in
    let kept : drop (i + 1) (set ns i new) ≡ drop (i + 1) ns = drop-set-lt (i + 1) ns i new (omega arith) in
    let others : drop (i + 1) ns ≡ drop (i + 1) (nodes_of old) = sym (drop-drop 1 i ns) ∙ ap (drop 1) same.rest ∙ drop-drop 1 i (nodes_of old) in
    record { same_len = rw (set_is, length-set ns i new) same.same_len; rest = rw (set_is, kept) others }

-- the node that is met next is one of the old ones
pub Same-child : (old now : Forest) (i : ℕ) (child : Node) → Same old now i → i < length (nodes_of now) → child ≡ get_or (nodes_of now) i child → node_height child ≤ height old
Same-child old now i child same fits is =
    let k : i < length (nodes_of old) = let e = same.same_len in omega arith in
    let at : child ≡ get_or (nodes_of old) i child = is ∙ same_item i (nodes_of now) (nodes_of old) child same.rest in
    let e : node_height child ≡ node_height (get_or (nodes_of old) i child) = ap node_height at in
    let f : height (forest_of (nodes_of old)) ≡ height old = ap height (forest_of-nodes_of old) in
    omega (arith, e, f, node_height-le (nodes_of old) i child k)

module _ {S : Type 0} (next : S → Item → S) (out : S → Item → Item) where
  pub after-append : (s : S) (xs ys : List Item) → after next out s (xs ++ ys) ≡ after next out (after next out s xs) ys
  after-append s [] ys = refl
  after-append s (x ∷ xs) ys = after-append (next s x) xs ys

  -- a forest's walk is its nodes' walks, one after another
  pub items-cons : (n : Node) (ns : List Node) → items (forest_of (n ∷ ns)) ≡ node_items n ++ items (forest_of ns)
  items-cons (Element t a c l) ns = refl
  items-cons (Text t) ns = refl

  pub walked-cons : (s : S) (n : Node) (ns : List Node) → walked next out s (forest_of (n ∷ ns)) ≡ join_node (walked_node next out s n) (walked next out (after next out s (node_items n)) (forest_of ns))
  walked-cons s (Element t a c l) ns = refl
  walked-cons s (Text t) ns = refl

  -- a walk over an element's nodes, before node i: the nodes before it are done
  pub record Left (children : Forest) (start : S) (now : Forest) (state : S) (i : ℕ) : Type 0 where
    pub same : Same children now i
    pub nodes : take i (nodes_of now) ++ nodes_of (walked next out state (forest_of (drop i (nodes_of now)))) ≡ nodes_of (walked next out start children)
    pub done : after next out state (items (forest_of (drop i (nodes_of now)))) ≡ after next out start (items children)

  pub Left-init : (c : Forest) (s : S) → Left c s c s 0
  Left-init c s = record { same = Same-init c; nodes = ap (λ f. nodes_of (walked next out s f)) (forest_of-nodes_of c); done = ap (λ f. after next out s (items f)) (forest_of-nodes_of c) }

  pub Left-more : (children : Forest) (start : S) (now : Forest) (state : S) (i : ℕ) (child new : Node) (state' : S) → Left children start now state i → i < length (nodes_of now)
      → child ≡ get_or (nodes_of now) i child → new ≡ walked_node next out state child → state' ≡ after next out state (node_items child)
      → Left children start (forest_of (set (nodes_of now) i new)) state' (i + 1)
  Left-more children start now state i child new state' left fits is changed moved =
      let ns = nodes_of now in
      let set_is : nodes_of (forest_of (set ns i new)) ≡ set ns i new = nodes_of-forest_of (set ns i new) in
      let parts : drop i ns ≡ child ∷ drop (i + 1) ns = drop_item ns i child fits is in
      let kept : drop (i + 1) (set ns i new) ≡ drop (i + 1) ns = drop-set-lt (i + 1) ns i new (omega arith) in
      let nodes_then :
      take i ns ++ (walked_node next out state child ∷ nodes_of (walked next out (after next out state (node_items child)) (forest_of (drop (i + 1) ns)))) ≡ nodes_of (walked next out start children) =
      rw (parts, walked-cons state child (drop (i + 1) ns), nodes_of-join (walked_node next out state child) (walked next out (after next out state (node_items child)) (forest_of (drop (i + 1) ns)))) at left.nodes in
      let done_then : after next out (after next out state (node_items child)) (items (forest_of (drop (i + 1) ns))) ≡ after next out start (items children) =
      rw (parts, items-cons child (drop (i + 1) ns), after-append state (node_items child) (items (forest_of (drop (i + 1) ns)))) at left.done in
      record {
        same = Same-more children now i new left.same fits;
        nodes = rw (set_is, take_more_set ns i new fits, kept, changed, moved, append_assoc (take i ns) (walked_node next out state child ∷ [])) nodes_then;
        done = rw (set_is, kept, moved) done_then;
      }

  pub Left-nodes : (children : Forest) (start : S) (now : Forest) (state : S) (i : ℕ) → Left children start now state i → length (nodes_of now) ≤ i → now ≡ walked next out start children
  Left-nodes children start now state i left all =
      sym (forest_of-nodes_of now)
      ∙ ap forest_of (sym (append-nil (nodes_of now)) ∙ (rw (take_all i (nodes_of now) all, drop_all i (nodes_of now) all) at left.nodes))
      ∙ forest_of-nodes_of (walked next out start children)

  -- the element whose own part was changed, and then its nodes
  pub walked-element : (s s' : S) (node : Node) (t t' : Tag) (a a' : List Attr) (c c' : Forest) (l l' : ℕ) → node ≡ Element t a c l → s' ≡ next s (item t a l) → item t' a' l' ≡ out s (item t a l)
      → c' ≡ walked next out s' c → Element t' a' c' l' ≡ walked_node next out s node
  walked-element s s' node t t' a a' c c' l l' is state own nodes =
      rw (is, nodes, state) (ap (λ (x : Item). Element x.tag x.attrs (walked next out (next s (item t a l)) c) x.line) own)
