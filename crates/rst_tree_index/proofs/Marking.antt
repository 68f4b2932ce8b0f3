-- Changes at each mark, one after another, are a walk.
use Rattle.std.proofs.Common.{◌≡◌, ℕ, ◌+◌, ◌<◌, ◌≤◌, List, [], ◌∷◌, ◌++◌, length, get_or, take, arith, append_assoc, suc, refl, sym, ◌∙◌, ap, Bool, true, false}
use Rattle.std.specs.Prelude.{if◌then◌else◌, map, option_and_then, slice_get}
use Rattle.std.proofs.lemmas.List.{append-nil, map-append, take_more, length-take-le}
use Rattle.std.proofs.lemmas.Simd.{map-map}
use Rattle.rst_tree.specs.Paths.{node_at, map_at, changed_at}
use Rattle.rst_tree.specs.declared.attrs.Attr.{Attr}
use Rattle.rst_tree.specs.declared.tag.Tag.{Tag}
use Rattle.rst_tree.specs.declared.node.Node.{Node}
use Rattle.rst_tree.specs.declared.node.Node.TheVariants.{Element, Text}
use Rattle.rst_tree.specs.Forest.{Forest, bare, element, words}
use Rattle.rst_tree.specs.Nodes.{forest_of, nodes_of}
use Rattle.rst_tree.specs.Walk.{Item, item, items, node_items, after, walked, walked_node}
use Rattle.rst_tree.proofs.Walks.{after-append}
use Rattle.rst_tree.proofs.Changes.{forest_of-nodes_of}
use Rattle.rst_tree_index.specs.MarkPaths.{node_paths}
use Rattle.rst_tree_index.specs.Marks.{NodePlace, path_of, deeper, later, own_place, places, own_mark, marks_of, heeded_out, heeded_next, map_item, after_one, visited_at, visited_all}

module _ {S : Type 0} (next : S → Item → S) (out : S → Item → Item) where
  -- a state and the nodes, after the element at a place
  abbrev pub visited : NodePlace → S × Forest → S × Forest
  visited p w =
      (after_one next w.0 (option_and_then (node_at p.1) (slice_get (nodes_of w.1) p.0)), forest_of (map_at (changed_at (map_item (out w.0)) p.1) p.0 (nodes_of w.1)))

  abbrev pub many : List NodePlace → S × Forest → S × Forest
  many [] w = w
  many (p ∷ ps) w = many ps (visited p w)

  many-append : (ps qs : List NodePlace) (w : S × Forest) → many (ps ++ qs) w ≡ many qs (many ps w)
  many-append [] qs w = refl
  many-append (p ∷ ps) qs w = many-append ps qs (visited p w)

  pub visited_all-append : (ps qs : List (List ℕ)) (w : S × Node) → visited_all next out (ps ++ qs) w ≡ visited_all next out qs (visited_all next out ps w)
  visited_all-append [] qs w = refl
  visited_all-append (p ∷ ps) qs w = visited_all-append ps qs (visited_at next out p w)

  abbrev inside : Tag → List Attr → ℕ → Forest → S × Forest → S × Forest
  inside t a l r w = (w.0, element t a w.1 l r)

  abbrev beside : Tag → List Attr → Forest → ℕ → S × Forest → S × Forest
  beside t a c l w = (w.0, element t a c l w.1)

  abbrev after_text : List ℕ → S × Forest → S × Forest
  after_text t w = (w.0, words t w.1)

  abbrev within : Tag → List Attr → ℕ → S × Forest → S × Node
  within t a l w = (w.0, Element t a w.1 l)

  many-deeper : (ps : List NodePlace) (s : S) (t : Tag) (a : List Attr) (c : Forest) (l : ℕ) (r : Forest) → many (map deeper ps) (s, element t a c l r) ≡ inside t a l r (many ps (s, c))
  many-deeper [] s t a c l r = refl
  many-deeper (p ∷ ps) s t a c l r =
      let w : S × Forest = visited p (s, c) in
      ap (λ z. many (map deeper ps) (w.0, element t a w.1 l z)) (forest_of-nodes_of r) ∙ many-deeper ps w.0 t a w.1 l r

  many-later : (ps : List NodePlace) (s : S) (t : Tag) (a : List Attr) (c : Forest) (l : ℕ) (r : Forest) → many (map later ps) (s, element t a c l r) ≡ beside t a c l (many ps (s, r))
  many-later [] s t a c l r = refl
  many-later (p ∷ ps) s t a c l r = let w : S × Forest = visited p (s, r) in many-later ps w.0 t a c l w.1

  many-after_text : (ps : List NodePlace) (s : S) (t : List ℕ) (r : Forest) → many (map later ps) (s, words t r) ≡ after_text t (many ps (s, r))
  many-after_text [] s t r = refl
  many-after_text (p ∷ ps) s t r = let w : S × Forest = visited p (s, r) in many-after_text ps w.0 t w.1

  visited_all-paths : (ps : List NodePlace) (s : S) (t : Tag) (a : List Attr) (c : Forest) (l : ℕ) → visited_all next out (map path_of ps) (s, Element t a c l) ≡ within t a l (many ps (s, c))
  visited_all-paths [] s t a c l = refl
  visited_all-paths (p ∷ ps) s t a c l = let w : S × Forest = visited p (s, c) in visited_all-paths ps w.0 t a w.1 l

  own-visited : (b : Bool) (s : S) (t : Tag) (a : List Attr) (c : Forest) (l : ℕ) (r : Forest) → many (if b then (0, []) ∷ [] else []) (s, element t a c l r)
      ≡ (if b then next s (item t a l) else s, (let y : Item = if b then out s (item t a l) else item t a l in element y.tag y.attrs c y.line r))
  own-visited true s t a c l r = let y : Item = out s (item t a l) in ap (λ z. (next s (item t a l), element y.tag y.attrs c y.line z)) (forest_of-nodes_of r)
  own-visited false s t a c l r = refl

  pub own-visited_node : (b : Bool) (s : S) (t : Tag) (a : List Attr) (c : Forest) (l : ℕ) → visited_all next out (if b then [] ∷ [] else []) (s, Element t a c l)
      ≡ (if b then next s (item t a l) else s, (let y : Item = if b then out s (item t a l) else item t a l in Element y.tag y.attrs c y.line))
  own-visited_node true s t a c l = refl
  own-visited_node false s t a c l = refl

  module _ (needs : Item → Bool) where
    -- the changes at all places are a walk that heeds these elements alone
    pub many-places : (s : S) (f : Forest) → many (places needs f) (s, f) ≡ (after (heeded_next needs next) (heeded_out needs out) s (items f), walked (heeded_next needs next) (heeded_out needs out) s f)
    many-places s bare = refl
    many-places s (words t r) = many-after_text (places needs r) s t r ∙ ap (after_text t) (many-places s r)
    many-places s (element t a c l r) =
        let x : Item = item t a l in
        let y : Item = heeded_out needs out s x in
        let s1 : S = heeded_next needs next s x in
        let s2 : S = after (heeded_next needs next) (heeded_out needs out) s1 (items c) in
        let c' : Forest = walked (heeded_next needs next) (heeded_out needs out) s1 c in
        many-append (own_place needs x) (map deeper (places needs c) ++ map later (places needs r)) (s, element t a c l r)
        ∙ ap (many (map deeper (places needs c) ++ map later (places needs r))) (own-visited (needs x) s t a c l r)
        ∙ many-append (map deeper (places needs c)) (map later (places needs r)) (s1, element y.tag y.attrs c y.line r)
        ∙ ap (many (map later (places needs r))) (many-deeper (places needs c) s1 y.tag y.attrs c y.line r ∙ ap (inside y.tag y.attrs y.line r) (many-places s1 c))
        ∙ many-later (places needs r) s2 y.tag y.attrs c' y.line r
        ∙ ap (beside y.tag y.attrs c' y.line) (many-places s2 r)
        ∙ ap (λ z. (z, element y.tag y.attrs c' y.line (walked (heeded_next needs next) (heeded_out needs out) s2 r))) (sym (after-append (heeded_next needs next) (heeded_out needs out) s1 (items c) (items r)))

    -- the changes at all marks of a node
    pub visited_all-marks : (s : S) (n : Node) → visited_all next out (marks_of needs n) (s, n) ≡ (after (heeded_next needs next) (heeded_out needs out) s (node_items n), walked_node (heeded_next needs next) (heeded_out needs out) s n)
    visited_all-marks s (Text t) = refl
    visited_all-marks s (Element t a c l) =
        let x : Item = item t a l in
        let y : Item = heeded_out needs out s x in
        let s1 : S = heeded_next needs next s x in
        visited_all-append (own_mark needs x) (map path_of (places needs c)) (s, Element t a c l)
        ∙ ap (visited_all next out (map path_of (places needs c))) (own-visited_node (needs x) s t a c l)
        ∙ visited_all-paths (places needs c) s1 y.tag y.attrs c y.line
        ∙ ap (within y.tag y.attrs y.line) (many-places s1 c)

abbrev in_node : ℕ → List ℕ → NodePlace
in_node i p = (i, p)

module _ (needs : Item → Bool) where
  own_in : (x : Item) → own_place needs x ≡ map (in_node 0) (own_mark needs x)
  own_in x = elim (needs x) as (λ v. (if v then (0, []) ∷ [] else []) ≡ map (in_node 0) (if v then [] ∷ [] else [])) [ true ↦ refl | false ↦ refl ]

  later_push : (ns : List Node) (n : Node) → places needs (forest_of (ns ++ n ∷ [])) ≡ places needs (forest_of ns) ++ map (in_node (length ns)) (marks_of needs n)
      → map later (places needs (forest_of (ns ++ n ∷ []))) ≡ map later (places needs (forest_of ns)) ++ map (in_node (suc (length ns))) (marks_of needs n)
  later_push ns n e =
      ap (map later) e ∙ map-append later (places needs (forest_of ns)) (map (in_node (length ns)) (marks_of needs n))
      ∙ ap (λ z. map later (places needs (forest_of ns)) ++ z) (map-map later (in_node (length ns)) (marks_of needs n))

  -- one node more, after the others
  places-push : (ns : List Node) (n : Node) → places needs (forest_of (ns ++ n ∷ [])) ≡ places needs (forest_of ns) ++ map (in_node (length ns)) (marks_of needs n)
  places-push [] (Text t) = refl
  places-push [] (Element t a c l) =
      let x : Item = item t a l in
      ap (λ z. own_place needs x ++ z) (append-nil (map deeper (places needs c)))
      ∙ ap (λ z. z ++ map deeper (places needs c)) (own_in x)
      ∙ ap (λ z. map (in_node 0) (own_mark needs x) ++ z) (sym (map-map (in_node 0) path_of (places needs c)))
      ∙ sym (map-append (in_node 0) (own_mark needs x) (map path_of (places needs c)))
  places-push (Text t ∷ ns) n = later_push ns n (places-push ns n)
  places-push (Element t a c l ∷ ns) n =
      let x : Item = item t a l in
      ap (λ z. own_place needs x ++ (map deeper (places needs c) ++ z)) (later_push ns n (places-push ns n))
      ∙ ap (λ z. own_place needs x ++ z) (sym (append_assoc (map deeper (places needs c)) (map later (places needs (forest_of ns))) (map (in_node (suc (length ns))) (marks_of needs n))))
      ∙ sym (append_assoc (own_place needs x) (map deeper (places needs c) ++ map later (places needs (forest_of ns))) (map (in_node (suc (length ns))) (marks_of needs n)))

  -- the marks in a list of nodes, and in one more after them
  pub paths_push : (ns : List Node) (n : Node) (own old_paths inner now : List (List ℕ)) (k : ℕ) → old_paths ≡ own ++ map path_of (places needs (forest_of ns)) → k ≡ length ns → inner ≡ marks_of needs n
      → now ≡ old_paths ++ map (λ p. k ∷ p) inner → now ≡ own ++ map path_of (places needs (forest_of (ns ++ n ∷ [])))
  paths_push ns n own old_paths inner now k old at more all =
      let before : List (List ℕ) = map path_of (places needs (forest_of ns)) in
      let e : map path_of (places needs (forest_of (ns ++ n ∷ []))) ≡ before ++ map (λ p. length ns ∷ p) (marks_of needs n) =
      ap (map path_of) (places-push ns n) ∙ map-append path_of (places needs (forest_of ns)) (map (in_node (length ns)) (marks_of needs n))
      ∙ ap (λ z. before ++ z) (map-map path_of (in_node (length ns)) (marks_of needs n)) in
      all ∙ (rw (old, at, more) (append_assoc own before (map (λ p. length ns ∷ p) (marks_of needs n)))) ∙ ap (λ z. own ++ z) (sym e)

  -- the marks in the first nodes of a list, and in one more
  pub paths_more : (ns : List Node) (i : ℕ) (child : Node) (own old_paths now : List (List ℕ)) → i < length ns → child ≡ get_or ns i child → old_paths ≡ own ++ map path_of (places needs (forest_of (take i ns)))
      → now ≡ old_paths ++ map (λ p. i ∷ p) (marks_of needs child) → now ≡ own ++ map path_of (places needs (forest_of (take (i + 1) ns)))
  paths_more ns i child own old_paths now fits at old all =
      let k : i ≤ length ns = omega arith in
      let more : take (i + 1) ns ≡ take i ns ++ child ∷ [] = take_more ns i child fits ∙ ap (λ x. take i ns ++ x ∷ []) (sym at) in
      paths_push (take i ns) child own old_paths (marks_of needs child) now i old (sym (length-take-le i ns k)) refl all ∙ ap (λ z. own ++ map path_of (places needs (forest_of z))) (sym more)

  -- a text among the nodes has none
  pub paths_past : (ns : List Node) (i : ℕ) (child : Node) (t : List ℕ) (own old_paths : List (List ℕ)) → i < length ns → child ≡ get_or ns i child → child ≡ Text t → old_paths ≡ own ++ map path_of (places needs (forest_of (take i ns)))
      → old_paths ≡ own ++ map path_of (places needs (forest_of (take (i + 1) ns)))
  paths_past ns i child t own old_paths fits at is old = paths_more ns i child own old_paths old_paths fits at old (rw is (sym (append-nil old_paths)))

  -- the marks of an element with nodes
  pub marks_element : (t : Tag) (a : List Attr) (l : ℕ) (c c' : Forest) (own : Bool) (none inner : List (List ℕ)) → own ≡ needs (item t a l) → none ≡ [] → c' ≡ c → inner ≡ none ++ map path_of (places needs c)
      → node_paths own inner ≡ own_mark needs (item t a l) ++ map path_of (places needs c')
  marks_element t a l c c' own none inner mine begun is all = rw (all, begun, mine, is) refl

  -- the same of an element that is there
  pub marks_within : (node : Node) (t : Tag) (a : List Attr) (c : Forest) (l : ℕ) (own : Bool) (none inner : List (List ℕ)) → node ≡ Element t a c l → own ≡ needs (item t a l) → none ≡ []
      → inner ≡ none ++ map path_of (places needs c) → node_paths own inner ≡ marks_of needs node
  marks_within node t a c l own none inner is mine begun all = marks_element t a l c c own none inner mine begun refl all ∙ ap (marks_of needs) (sym is)
