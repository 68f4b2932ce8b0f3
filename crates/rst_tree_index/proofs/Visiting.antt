-- What a visit by marks does: node by node, those of each one after the other.
use Rattle.std.proofs.Common.{◌≡◌, ◌≢◌, ℕ, ◌+◌, ◌<◌, ◌≤◌, List, [], ◌∷◌, ◌++◌, length, get_or, set, drop, arith, zero, suc, refl, sym, ◌∙◌, ap, Bool, true, false, append-nil, append_assoc}
use Rattle.std.specs.List.{filter}
use Rattle.std.specs.Prelude.{cond, if◌then◌else◌, map, Some, option_and_then, slice_get}
use Rattle.std.proofs.lemmas.List.{drop_all, drop_more, get_or-set_same, length-append, length-map, length-set, nil_from_length, set-get_or, set-set}
use Rattle.rst_tree.specs.declared.attrs.Attr.{Attr}
use Rattle.rst_tree.specs.declared.node.Node.{Node}
use Rattle.rst_tree.specs.declared.node.Node.TheVariants.{Element, Text}
use Rattle.rst_tree.specs.declared.tag.Tag.{Tag}
use Rattle.rst_tree.specs.Forest.{Forest}
use Rattle.rst_tree.specs.Nodes.{forest_of, nodes_of}
use Rattle.rst_tree.specs.Paths.{node_at, map_at, changed_at}
use Rattle.rst_tree.specs.Walk.{Item, item, after}
use Rattle.rst_tree.proofs.Changes.{forest_of-nodes_of, nodes_of-forest_of, map_at-set, slice_get-none, slice_get-some}
use Rattle.rst_tree_index.specs.declared.marks.Mark.{Mark}
use Rattle.rst_tree_index.specs.declared.marks.Marks.TheDeep.{deep-Mark}
use Rattle.rst_tree_index.specs.MarkLengths.{most_le-longest}
use Rattle.rst_tree_index.specs.MarkPaths.{AreUsed, longest, node_paths, paths_at, paths_in}
use Rattle.rst_tree_index.specs.Marks.{after_one, heeded_next, heeded_out, map_item, visited_all, with_elements_at, with_one}
use denote.Param.Weighed.{at_most}
use Rattle.rst_tree_index.proofs.Marking.{own-visited_node, visited_all-append}

-- ---- changes at marks

map_at-past : {X : Type 0} (f : X → X) (i : ℕ) (xs : List X) → length xs ≤ i → map_at f i xs ≡ xs
map_at-past f i [] h = refl
map_at-past f zero (x ∷ xs) h = absurd (omega arith)
map_at-past f (suc i) (x ∷ xs) h = let k : length xs ≤ i = omega arith in ap (λ ys. x ∷ ys) (map_at-past f i xs k)

module _ {S : Type 0} (next : S → Item → S) (out : S → Item → Item) where
  -- a text has no element
  pub text_left : (ps : List (List ℕ)) (s : S) (node : Node) (t : List ℕ) → node ≡ Text t → (s, node) ≡ visited_all next out ps (s, node)
  text_left [] s node t is = refl
  text_left ([] ∷ ps) s node t is = rw is (text_left ps s (Text t) t refl)
  text_left ((i ∷ p) ∷ ps) s node t is = rw is (text_left ps s (Text t) t refl)

  -- an element in which the node at a place was visited
  abbrev placed : Tag → List Attr → List Node → ℕ → ℕ → S × Node → S × Node
  placed t a ns l place w = (w.0, Element t a (forest_of (set ns place w.1)) l)

  -- all paths begin with one node of an element
  node_visited : (place : ℕ) (ps : List (List ℕ)) (s : S) (t : Tag) (a : List Attr) (ns : List Node) (l : ℕ) (d : Node) → place < length ns → d ≡ get_or ns place d
      → visited_all next out (map (λ p. place ∷ p) ps) (s, Element t a (forest_of ns) l) ≡ placed t a ns l place (visited_all next out ps (s, d))
  node_visited place [] s t a ns l d fits at = ap (λ z. (s, Element t a (forest_of z) l)) (sym (ap (set ns place) at ∙ set-get_or ns place d))
  node_visited place (p ∷ ps) s t a ns l d fits at =
      let rest : List (List ℕ) = map (λ q. place ∷ q) ps in
      let f : Node → Node = changed_at (map_item (out s)) p in
      let s1 : S = after_one next s (node_at p d) in
      let ns1 : List Node = set ns place (f d) in
      let w : S × Node = visited_all next out ps (s1, f d) in
      let there : slice_get ns place ≡ Some d = slice_get-some ns place d fits ∙ ap Some (sym at) in
      let changed : map_at f place ns ≡ ns1 = map_at-set f place ns d fits ∙ ap (λ x. set ns place (f x)) (sym at) in
      ap (λ ms. visited_all next out rest (after_one next s (option_and_then (node_at p) (slice_get ms place)), Element t a (forest_of (map_at f place ms)) l)) (nodes_of-forest_of ns)
      ∙ ap (λ o. visited_all next out rest (after_one next s (option_and_then (node_at p) o), Element t a (forest_of (map_at f place ns)) l)) there
      ∙ ap (λ ms. visited_all next out rest (s1, Element t a (forest_of ms) l)) changed
      ∙ node_visited place ps s1 t a ns1 l (f d) (rw length-set fits) (sym (get_or-set_same ns place (f d) (f d) fits))
      ∙ ap (λ ms. (w.0, Element t a (forest_of ms) l)) (set-set ns place (f d) w.1)

  -- no node is there
  past_visited : (place : ℕ) (ps : List (List ℕ)) (s : S) (t : Tag) (a : List Attr) (ns : List Node) (l : ℕ) → length ns ≤ place
      → visited_all next out (map (λ p. place ∷ p) ps) (s, Element t a (forest_of ns) l) ≡ (s, Element t a (forest_of ns) l)
  past_visited place [] s t a ns l past = refl
  past_visited place (p ∷ ps) s t a ns l past =
      let rest : List (List ℕ) = map (λ q. place ∷ q) ps in
      let f : Node → Node = changed_at (map_item (out s)) p in
      ap (λ ms. visited_all next out rest (after_one next s (option_and_then (node_at p) (slice_get ms place)), Element t a (forest_of (map_at f place ms)) l)) (nodes_of-forest_of ns)
      ∙ ap (λ o. visited_all next out rest (after_one next s (option_and_then (node_at p) o), Element t a (forest_of (map_at f place ns)) l)) (slice_get-none ns place past)
      ∙ ap (λ ms. visited_all next out rest (s, Element t a (forest_of ms) l)) (map_at-past f place ns past)
      ∙ past_visited place ps s t a ns l past

  -- the marks from one on
  mark_first : (ms : List Mark) (i : ℕ) (m : Mark) (w : S × Node) → i < length ms → m ≡ get_or ms i m
      → visited_all next out (paths_in (drop i ms)) w ≡ visited_all next out (paths_in (drop (i + 1) ms)) (visited_all next out (paths_at m) w)
  mark_first ms i m w fits at =
      ap (λ z. visited_all next out (paths_in z) w) (drop_more ms i m fits ∙ ap (λ z. z ∷ drop (i + 1) ms) (sym at))
      ∙ visited_all-append next out (paths_at m) (paths_in (drop (i + 1) ms)) w

  -- one more of them, at a node that was visited by it
  pub mark_visited : (ms : List Mark) (i : ℕ) (m : Mark) (s s' : S) (c c' : Forest) (d d' : Node) → i < length ms → m ≡ get_or ms i m → m.place < length (nodes_of c) → d ≡ get_or (nodes_of c) m.place d
      → d' ≡ (visited_all next out (node_paths m.own m.inner) (s, d)).1 → s' ≡ (visited_all next out (node_paths m.own m.inner) (s, d)).0 → c' ≡ forest_of (set (nodes_of c) m.place d')
      → (t : Tag) (a : List Attr) (l : ℕ) → visited_all next out (paths_in (drop (i + 1) ms)) (s', Element t a c' l) ≡ visited_all next out (paths_in (drop i ms)) (s, Element t a c l)
  mark_visited ms i m s s' c c' d d' fits at inside there node state whole t a l =
      let w : S × Node = visited_all next out (node_paths m.own m.inner) (s, d) in
      let made : (s', Element t a c' l) ≡ placed t a (nodes_of c) l m.place w = rw (whole, node, state) refl in
      ap (visited_all next out (paths_in (drop (i + 1) ms))) (made ∙ sym (node_visited m.place (node_paths m.own m.inner) s t a (nodes_of c) l d inside there)
      ∙ ap (λ z. visited_all next out (paths_at m) (s, Element t a z l)) (forest_of-nodes_of c))
      ∙ sym (mark_first ms i m (s, Element t a c l) fits at)

  -- the same where no node is at its place
  pub mark_passed : (ms : List Mark) (i : ℕ) (m : Mark) (s : S) (c : Forest) → i < length ms → m ≡ get_or ms i m → length (nodes_of c) ≤ m.place
      → (t : Tag) (a : List Attr) (l : ℕ) → visited_all next out (paths_in (drop (i + 1) ms)) (s, Element t a c l) ≡ visited_all next out (paths_in (drop i ms)) (s, Element t a c l)
  mark_passed ms i m s c fits at past t a l =
      ap (visited_all next out (paths_in (drop (i + 1) ms))) (ap (λ z. (s, Element t a z l)) (sym (forest_of-nodes_of c)) ∙ sym (past_visited m.place (node_paths m.own m.inner) s t a (nodes_of c) l past)
      ∙ ap (λ z. visited_all next out (paths_at m) (s, Element t a z l)) (forest_of-nodes_of c))
      ∙ sym (mark_first ms i m (s, Element t a c l) fits at)

  -- all marks in an element, after its own
  pub element_visited : (node : Node) (t t' : Tag) (a a' : List Attr) (c c' : Forest) (l l' : ℕ) (own : Bool) (ms : List Mark) (inner : List (List ℕ)) (i : ℕ) (s s1 s' : S) → node ≡ Element t a c l → inner ≡ paths_in ms
      → length ms ≤ i → s1 ≡ (if own then next s (item t a l) else s) → item t' a' l' ≡ (if own then out s (item t a l) else item t a l)
      → visited_all next out (paths_in (drop i ms)) (s', Element t' a' c' l') ≡ visited_all next out (paths_in ms) (s1, Element t' a' c l')
      → (s', Element t' a' c' l') ≡ visited_all next out (node_paths own inner) (s, node)
  element_visited node t t' a a' c c' l l' own ms inner i s s1 s' is paths all state own_item left =
      let f : Item → Node = λ x. Element x.tag x.attrs c x.line in
      ap (λ z. visited_all next out (paths_in z) (s', Element t' a' c' l')) (sym (drop_all i ms all))
      ∙ left
      ∙ ap (λ z. visited_all next out (paths_in ms) z) (ap (λ z. (z, Element t' a' c l')) state ∙ ap (λ x. ((if own then next s (item t a l) else s), f x)) own_item ∙ sym (own-visited_node next out own s t a c l))
      ∙ sym (visited_all-append next out (if own then [] ∷ [] else []) (paths_in ms) (s, Element t a c l))
      ∙ ap (λ z. visited_all next out (node_paths own z) (s, Element t a c l)) (sym paths)
      ∙ ap (λ z. visited_all next out (node_paths own inner) (s, z)) (sym is)

-- ---- what is read, and no change

map_at-same : {X : Type 0} (f : X → X) (same : (x : X) → f x ≡ x) (i : ℕ) (xs : List X) → map_at f i xs ≡ xs
map_at-same f same i [] = refl
map_at-same f same zero (x ∷ xs) = ap (λ z. z ∷ xs) (same x)
map_at-same f same (suc i) (x ∷ xs) = ap (λ zs. x ∷ zs) (map_at-same f same i xs)

map_item-same : (n : Node) → map_item (λ x. x) n ≡ n
map_item-same (Element t a c l) = refl
map_item-same (Text t) = refl

changed_at-same : (f : Node → Node) (same : (n : Node) → f n ≡ n) (p : List ℕ) (n : Node) → changed_at f p n ≡ n
changed_at-same f same [] n = same n
changed_at-same f same (i ∷ p) (Element t a c l) =
    ap (λ z. Element t a z l) (ap forest_of (map_at-same (changed_at f p) (changed_at-same f same p) i (nodes_of c)) ∙ forest_of-nodes_of c)
changed_at-same f same (i ∷ p) (Text t) = refl

-- a pass that reads changes nothing
read_same : (ps : List (List ℕ)) (known : List Item) (n : Node) → (visited_all with_one (λ s x. x) ps (known, n)).1 ≡ n
read_same [] known n = refl
read_same (p ∷ ps) known n = read_same ps (after_one with_one known (node_at p n)) (changed_at (map_item (λ x. x)) p n) ∙ changed_at-same (map_item (λ x. x)) map_item-same p n

-- the own mark of an element, then those in it
pub own_read : (own : Bool) (ps : List (List ℕ)) (t : Tag) (a : List Attr) (c : Forest) (l : ℕ) (known more : List Item) → more ≡ (if own then with_one known (item t a l) else known)
    → with_elements_at ps (Element t a c l) more ≡ with_elements_at (node_paths own ps) (Element t a c l) known
own_read true ps t a c l known more is = ap (with_elements_at ps (Element t a c l)) is
own_read false ps t a c l known more is = ap (with_elements_at ps (Element t a c l)) is

-- one more mark
pub mark_read : (ms : List Mark) (i : ℕ) (m : Mark) (ns : List Node) (d : Node) (known more : List Item) → i < length ms → m ≡ get_or ms i m → m.place < length ns → d ≡ get_or ns m.place d
    → more ≡ with_elements_at (node_paths m.own m.inner) d known
    → (t : Tag) (a : List Attr) (l : ℕ) → with_elements_at (paths_in (drop (i + 1) ms)) (Element t a (forest_of ns) l) more ≡ with_elements_at (paths_in (drop i ms)) (Element t a (forest_of ns) l) known
mark_read ms i m ns d known more fits at inside there is t a l =
    let kept : forest_of ns ≡ forest_of (set ns m.place d) = ap forest_of (sym (ap (set ns m.place) there ∙ set-get_or ns m.place d)) in
    ap (λ z. z.0) (mark_visited with_one (λ s x. x) ms i m known more (forest_of ns) (forest_of ns) d d fits at (rw nodes_of-forest_of inside)
    (rw nodes_of-forest_of there) (sym (read_same (node_paths m.own m.inner) known d)) is (rw nodes_of-forest_of kept) t a l)

-- the elements that are heeded, one after the other, are those that are wanted
pub after-filter : (needs : Item → Bool) (s : List Item) (xs : List Item) → after (heeded_next needs with_one) (heeded_out needs (λ s x. x)) s xs ≡ s ++ filter needs xs
after-filter needs s [] = sym (append-nil s)
after-filter needs s (x ∷ xs) =
    after-filter needs (heeded_next needs with_one s x) xs
    ∙ elim (needs x) as (λ v. (if v then s ++ x ∷ [] else s) ++ filter needs xs ≡ s ++ cond v (x ∷ filter needs xs) (filter needs xs))
    [ true ↦ append_assoc s (x ∷ []) (filter needs xs) | false ↦ refl ]

-- ---- how deep marks are

-- those in a node are less deep than those that lead to it
pub inner_shorter : (ms : List Mark) (i : ℕ) (m : Mark) → AreUsed ms → i < length ms → m ≡ get_or ms i m → longest m.inner + 1 ≤ longest (paths_in ms)
inner_shorter ms i m used fits at = omega (arith, most_le-longest ms used, at_most deep-Mark ms i m fits, ap deep-Mark at)

-- ---- the tree of marks

pub paths_in-push : (ms : List Mark) (m : Mark) → paths_in (ms ++ m ∷ []) ≡ paths_in ms ++ paths_at m
paths_in-push [] m = append-nil (paths_at m)
paths_in-push (x ∷ ms) m = ap (λ z. paths_at x ++ z) (paths_in-push ms m) ∙ sym (append_assoc (paths_at x) (paths_in ms) (paths_at m))

pub AreUsed-push : (ms : List Mark) (m : Mark) → AreUsed ms → node_paths m.own m.inner ≢ [] → AreUsed (ms ++ m ∷ [])
AreUsed-push [] m used some = (some, tt)
AreUsed-push (x ∷ ms) m used some = (used.0, AreUsed-push ms m used.1 some)

-- marks lead to something
pub no_paths : (ms : List Mark) → AreUsed ms → paths_in ms ≡ [] → ms ≡ []
no_paths [] used e = refl
no_paths (m ∷ ms) used e =
    absurd (used.0 (nil_from_length _ (omega (arith, ap length e, length-append (paths_at m) (paths_in ms), length-map (node_paths m.own m.inner) (λ p. m.place ∷ p)))))
