-- A rewriting, node by node.
use Rattle.std.proofs.Common.{◌≡◌, ℕ, ◌+◌, ◌<◌, ◌≤◌, List, [], ◌∷◌, ◌++◌, Bool, true, false, length, take, drop, get_or, set, append_assoc, append-nil, arith, refl, sym, ◌∙◌, ap}
use Rattle.std.proofs.lemmas.List.{take_more_set, drop-set-lt, drop_all, take_all}
use Rattle.rst_tree.specs.declared.attrs.Attr.{Attr}
use Rattle.rst_tree.specs.declared.tag.Tag.{Tag}
use Rattle.rst_tree.specs.declared.node.Node.{Node}
use Rattle.rst_tree.specs.declared.node.Node.TheVariants.{Element, Text}
use Rattle.rst_tree.specs.declared.rewriting.Rewrite.{Rewrite}
use Rattle.rst_tree.specs.declared.rewriting.Rewrite.TheVariants.{Keep, Replace}
use Rattle.rst_tree.specs.Forest.{Forest, bare, height, words}
use Rattle.rst_tree.specs.Nodes.{are_plain, forest_of, nodes_of, node_height}
use Rattle.rst_tree.specs.Rewritten.{go_on, rewritten, Turned}
use Rattle.rst_tree.proofs.Changes.{forest_of-nodes_of, nodes_of-forest_of}
use Rattle.rst_tree.proofs.EachNode.{drop_item}
use Rattle.rst_tree.proofs.Walks.{nodes_of-join}
pub use Rattle.rst_tree.proofs.Walks.{Same, Same-init, Same-more, Same-child}

module _ {S : Type 0} (entered : S → Node → S) (becomes : S → Node → Rewrite) where
  -- nodes rewritten
  abbrev redone : S → Forest → Forest × S
  redone = rewritten entered becomes

  -- what is made of one element, and the state then
  abbrev pub decided : Rewrite → S → Forest → List Node × S
  decided (Replace n) u c = (n ∷ [], u)
  decided (Keep t a l) u c = (Element t a (redone u c).0 l ∷ [], (redone u c).1)

  -- what is made of one node
  abbrev pub step : S → Node → List Node × S
  step s (Text t) = (Text t ∷ [], s)
  step s (Element t a c l) = decided (becomes s (Element t a c l)) (entered s (Element t a c l)) c

  -- what is made of nodes, one after another
  abbrev pub steps : S → List Node → List Node × S
  steps s [] = ([], s)
  steps s (n ∷ ns) = ((step s n).0 ++ (steps (step s n).1 ns).0, (steps (step s n).1 ns).1)

  pub rewritten-steps : (s : S) (ns : List Node) → ◌≡◌ {A = List Node × S} (nodes_of (redone s (forest_of ns)).0, (redone s (forest_of ns)).1) (steps s ns)
  rewritten-steps s [] = refl
  rewritten-steps s (Text t ∷ ns) = ap (λ (p : List Node × S). (Text t ∷ p.0, p.1)) (rewritten-steps s ns)
  rewritten-steps s (Element t a c l ∷ ns) =
      let u : S = entered s (Element t a c l) in
      elim (becomes s (Element t a c l)) as (λ v. ◌≡◌ {A = List Node × S} (nodes_of (go_on v u (λ w. redone w c) (λ w. redone w (forest_of ns))).0, (go_on v u (λ w. redone w c) (λ w. redone w (forest_of ns))).1)
      ((decided v u c).0 ++ (steps (decided v u c).1 ns).0, (steps (decided v u c).1 ns).1)) [
        | Replace n ↦ rw (nodes_of-join n (redone u (forest_of ns)).0) (ap (λ (p : List Node × S). (n ∷ p.0, p.1)) (rewritten-steps u ns))
        | Keep t' a' l' ↦ ap (λ (p : List Node × S). (Element t' a' (redone u c).0 l' ∷ p.0, p.1)) (rewritten-steps (redone u c).1 ns)
      ]

module _ {S : Type 0} (entered : S → Node → S) (becomes : S → Node → Rewrite) where
  -- what is made of nodes, each of which stays or gives way to one
  abbrev pub turns : S → List Node → List Node × S
  turns = steps entered becomes

  abbrev pub turned : S → Forest → Forest × S
  turned = rewritten entered becomes

  abbrev pub turn_of : S → Node → List Node × S
  turn_of = step entered becomes

  -- nodes rewritten before place i
  pub record Turning (children : Forest) (start : S) (now : Forest) (state : S) (i : ℕ) : Type 0 where
    pub same : Same children now i
    pub nodes : take i (nodes_of now) ++ (turns state (drop i (nodes_of now))).0 ≡ (turns start (nodes_of children)).0
    pub done : (turns state (drop i (nodes_of now))).1 ≡ (turns start (nodes_of children)).1

  pub Turning-init : (c : Forest) (s : S) → Turning c s c s 0
  Turning-init c s = record { same = Same-init c; nodes = refl; done = refl }

  pub Turning-more : (children : Forest) (start : S) (now : Forest) (state : S) (i : ℕ) (child new : Node) (state' : S) → Turning children start now state i → i < length (nodes_of now)
      → child ≡ get_or (nodes_of now) i child → turn_of state child ≡ (new ∷ [], state') → Turning children start (forest_of (set (nodes_of now) i new)) state' (i + 1)
  Turning-more children start now state i child new state' left fits is turned_to =
      let ns = nodes_of now in
      let set_is : nodes_of (forest_of (set ns i new)) ≡ set ns i new = nodes_of-forest_of (set ns i new) in
      let parts : drop i ns ≡ child ∷ drop (i + 1) ns = drop_item ns i child fits is in
      let kept : drop (i + 1) (set ns i new) ≡ drop (i + 1) ns = drop-set-lt (i + 1) ns i new (omega arith) in
      let nodes_then : take i ns ++ (new ∷ (turns state' (drop (i + 1) ns)).0) ≡ (turns start (nodes_of children)).0 = rw (parts, turned_to) at left.nodes in
      let done_then : (turns state' (drop (i + 1) ns)).1 ≡ (turns start (nodes_of children)).1 =
      ap (λ (p : List Node × S). (turns p.1 (drop (i + 1) ns)).1) (sym turned_to) ∙ ap (λ xs. (turns state xs).1) (sym parts) ∙ left.done in
      record {
        same = Same-more children now i new left.same fits;
        nodes = rw (set_is, take_more_set ns i new fits, kept, append_assoc (take i ns) (new ∷ [])) nodes_then;
        done = rw (set_is, kept) done_then;
      }

  pub Turning-all : (children : Forest) (start : S) (now : Forest) (state : S) (i : ℕ) → Turning children start now state i → length (nodes_of now) ≤ i
      → (now ≡ (turned start children).0) × (state ≡ (turned start children).1)
  Turning-all children start now state i left all =
      let whole = rewritten-steps entered becomes start (nodes_of children) in
      let e = forest_of-nodes_of children in (
        sym (forest_of-nodes_of now) ∙ ap forest_of (sym (append-nil (nodes_of now)) ∙ (rw (take_all i (nodes_of now) all, drop_all i (nodes_of now) all) at left.nodes))
            ∙ (rw e at (ap (λ (p : List Node × S). forest_of p.0) (sym whole))) ∙ forest_of-nodes_of (turned start children).0,
        (rw (drop_all i (nodes_of now) all) at left.done) ∙ (rw e at (ap (λ (p : List Node × S). p.1) (sym whole))),
      )

  -- a text
  pub turn-text : (u : S) (n : Node) (t : List ℕ) → n ≡ Text t → turn_of u n ≡ (n ∷ [], u)
  turn-text u n t is = rw is refl

  -- an element that gave way
  pub turn-away : (u u' : S) (n m : Node) (t : Tag) (a : List Attr) (c : Forest) (l : ℕ) (stays : Bool) → n ≡ Element t a c l → u' ≡ entered u n → Turned (becomes u n) n m stays → stays ≡ false → turn_of u n ≡ (m ∷ [], u')
  turn-away u u' n m t a c l stays is state did gone =
      rw (state, is) (away (becomes u (Element t a c l)) (rw is at did))
    where
      away : (r : Rewrite) → Turned r (Element t a c l) m stays → decided entered becomes r (entered u (Element t a c l)) c ≡ (m ∷ [], entered u (Element t a c l))
      away (Replace x) did = ap (λ z. (z ∷ [], entered u (Element t a c l))) (sym did.0)
      away (Keep t' a' l') did = let z : true ≡ false = rw did.1 at gone in cc

  -- an element with what is in it rewritten
  abbrev pub remade : S → Node → Node × S
  remade u (Element t a c l) = (Element t a (turned u c).0 l, (turned u c).1)
  remade u (Text x) = (Text x, u)

  -- an element that stayed
  pub turn-stay : (u u' v : S) (n m : Node) (t t' : Tag) (a a' : List Attr) (c c' d : Forest) (l l' : ℕ) (stays : Bool) → n ≡ Element t a c l → u' ≡ entered u n → Turned (becomes u n) n m stays → stays ≡ true → m ≡ Element t' a' c' l'
      → d ≡ (turned u' c').0 → v ≡ (turned u' c').1 → turn_of u n ≡ (Element t' a' d l' ∷ [], v)
  turn-stay u u' v n m t t' a a' c c' d l l' stays is state did there made inside after =
      rw (inside, after, state, is) (stay (becomes u (Element t a c l)) (rw is at did) ∙ ap (λ x. ((remade (entered u (Element t a c l)) x).0 ∷ [], (remade (entered u (Element t a c l)) x).1)) made)
    where
      stay : (r : Rewrite) → Turned r (Element t a c l) m stays
          → decided entered becomes r (entered u (Element t a c l)) c ≡ ((remade (entered u (Element t a c l)) m).0 ∷ [], (remade (entered u (Element t a c l)) m).1)
      stay (Replace x) did = let z : false ≡ true = rw did.1 at there in cc
      stay (Keep t2 a2 l2) did = rw did.0 refl

  -- where no element is, nothing is rewritten
  pub turned-plain : (s : S) (c : Forest) → are_plain c ≡ true → (c, s) ≡ turned s c
  turned-plain s bare plain = refl
  turned-plain s (words t bare) plain = refl
  turned-plain s _ plain = cc

  -- it is as high as it was
  pub turn-height : (u : S) (n m : Node) (t : Tag) (a : List Attr) (c : Forest) (l : ℕ) (stays : Bool) → n ≡ Element t a c l → Turned (becomes u n) n m stays → stays ≡ true → node_height m ≡ node_height n
  turn-height u n m t a c l stays is did there =
      rw is (high (becomes u (Element t a c l)) (rw is at did))
    where
      high : (r : Rewrite) → Turned r (Element t a c l) m stays → node_height m ≡ height c + 1
      high (Replace x) did = let z : false ≡ true = rw did.1 at there in cc
      high (Keep t2 a2 l2) did = ap node_height did.0
