-- What is known of nodes, as more come after them, as they become those of an element, and as the first is taken.
use Rattle.std.proofs.Common.{◌≡◌, ◌≢◌, ℕ, ◌+◌, ◌-◌, ◌^◌, ◌≤◌, min, suc, length, List, [], ◌∷◌, ◌++◌, append_assoc, refl, sym, ◌∙◌, ap, ap₂, subst, arith}
use Rattle.std.specs.Prelude.{map}
use Rattle.std.proofs.lemmas.List.{append-nil, length-append, map-append}
use Rattle.rst_tree.specs.declared.node.Node.{Node}
use Rattle.rst_tree.specs.Nodes.{forest_of}
use Rattle.rst_tree_index.specs.declared.marks.Mark.{Mark}
use Rattle.rst_tree_index.specs.Known.{MarkedPlace, entry_after, place_and_marks, known_at, known_of, entry_paths}
use Rattle.rst_tree_index.specs.MarkPaths.{AreUsed, node_paths, paths_in}
use Rattle.rst_tree_index.specs.Marks.{marks_of, path_of, places}
use Rattle.rst_tree_index.specs.Registered.{is_registered}
use Rattle.rst_tree_index.proofs.Marking.{paths_push}

-- ---- more nodes

known_append : (i : ℕ) (ns ms : List Node) → known_of i (ns ++ ms) ≡ known_of i ns ++ known_of (i + length ns) ms
known_append i [] ms = ap (λ k. known_of k ms) (omega arith)
known_append i (n ∷ ns) ms =
    let mine : List MarkedPlace = known_at i (marks_of is_registered n) in
    ap (λ z. mine ++ z) (known_append (suc i) ns ms) ∙ sym (append_assoc mine (known_of (suc i) ns) (known_of (suc i + length ns) ms))
    ∙ ap (λ k. (mine ++ known_of (suc i) ns) ++ known_of k ms) (omega arith)

entries_after : (b i : ℕ) (ns : List Node) → b + i + length ns ≤ 2 ^ 64 - 1 → map (entry_after b) (known_of i ns) ≡ known_of (b + i) ns
entries_after b i [] fits = refl
entries_after b i (n ∷ ns) fits = by (marks_of is_registered n) (entries_after b (suc i) ns (omega (arith, fits)) ∙ ap (λ k. known_of k ns) (omega arith))
  where
    by : (ps : List (List ℕ)) → map (entry_after b) (known_of (suc i) ns) ≡ known_of (suc (b + i)) ns
        → map (entry_after b) (known_at i ps ++ known_of (suc i) ns) ≡ known_at (b + i) ps ++ known_of (suc (b + i)) ns
    by [] rest = rest
    by (p ∷ ps) rest =
        let here : min (b + i) (2 ^ 64 - 1) ≡ b + i = omega (arith, fits) in
        ap₂ (λ k es. (k, p ∷ ps) ∷ es) here rest

-- what is known of them follows what is known of the others
pub appended : (ks ms moved : List Mark) (ns more : List Node) (before : ℕ) → map place_and_marks ks ≡ known_of 0 ns → map place_and_marks ms ≡ known_of 0 more → before ≡ length ns
    → length ns + length more ≤ 2 ^ 64 - 1 → map place_and_marks moved ≡ map (entry_after before) (map place_and_marks ms) → map place_and_marks (ks ++ moved) ≡ known_of 0 (ns ++ more)
appended ks ms moved ns more before known others at fits put =
    map-append place_and_marks ks moved
    ∙ ap₂ (λ y z. y ++ z) known
    (put ∙ ap₂ (λ k es. map (entry_after k) es) at others ∙ entries_after (length ns) 0 more (omega (arith, fits)) ∙ ap (λ k. known_of k more) (omega arith))
    ∙ sym (known_append 0 ns more)

-- ---- one more node

-- what is known of it follows what is known of the others
pub pushed : (old now : List MarkedPlace) (ns : List Node) (n : Node) (place : ℕ) (ps : List (List ℕ)) → old ≡ known_of 0 ns → place ≡ length ns → ps ≡ marks_of is_registered n
    → now ≡ old ++ known_at place ps → now ≡ known_of 0 (ns ++ n ∷ [])
pushed old now ns n place ps known at marks noted =
    let here : place ≡ 0 + length ns = omega (arith, at) in
    noted ∙ ap₂ (λ y z. y ++ z) known (ap₂ known_at here marks ∙ sym (append-nil _)) ∙ sym (known_append 0 ns (n ∷ []))

-- ---- all of them in an element

paths_at : (i : ℕ) (ps : List (List ℕ)) (es : List MarkedPlace) → entry_paths (known_at i ps ++ es) ≡ map (λ p. i ∷ p) ps ++ entry_paths es
paths_at i [] es = refl
paths_at i (p ∷ ps) es = refl

paths_from : (before ns : List Node) → map path_of (places is_registered (forest_of (before ++ ns))) ≡ map path_of (places is_registered (forest_of before)) ++ entry_paths (known_of (length before) ns)
paths_from before [] = ap (λ z. map path_of (places is_registered (forest_of z))) (append-nil before) ∙ sym (append-nil _)
paths_from before (n ∷ ns) =
    let i : ℕ = length before in
    let old_paths : List (List ℕ) = map path_of (places is_registered (forest_of before)) in
    let mine : List (List ℕ) = map (λ p. i ∷ p) (marks_of is_registered n) in
    ap (λ z. map path_of (places is_registered (forest_of z))) (sym (append_assoc before (n ∷ []) ns))
    ∙ paths_from (before ++ n ∷ []) ns
    ∙ ap₂ (λ y k. y ++ entry_paths (known_of k ns)) (sym (paths_push is_registered before n [] old_paths (marks_of is_registered n) (old_paths ++ mine) i refl refl refl refl)) (length-append before (n ∷ []) ∙ omega arith)
    ∙ append_assoc old_paths mine (entry_paths (known_of (suc i) ns))
    ∙ ap (λ z. old_paths ++ z) (sym (paths_at i (marks_of is_registered n) (known_of (suc i) ns)))

pub all_paths : (ks : List Mark) (ns : List Node) (inner : List (List ℕ)) → map place_and_marks ks ≡ known_of 0 ns → inner ≡ entry_paths (map place_and_marks ks) → inner ≡ [] ++ map path_of (places is_registered (forest_of ns))
all_paths ks ns inner known all = all ∙ ap entry_paths known ∙ sym (paths_from [] ns)

-- the marks of a list lead where what is known of its nodes does
pub marks_paths : (ks : List Mark) → paths_in ks ≡ entry_paths (map place_and_marks ks)
marks_paths [] = refl
marks_paths (k ∷ ks) = ap (λ z. map (λ p. k.place ∷ p) (node_paths k.own k.inner) ++ z) (marks_paths ks)

-- each node of which anything is known has a mark
abbrev HaveMarks : List MarkedPlace → Type 0
HaveMarks [] = Unit {0}
HaveMarks (e ∷ es) = (e.1 ≢ []) × HaveMarks es

known_marks : (i : ℕ) (ns : List Node) → HaveMarks (known_of i ns)
known_marks i [] = tt
known_marks i (n ∷ ns) = by (marks_of is_registered n) (known_marks (suc i) ns)
  where
    by : (ps : List (List ℕ)) → HaveMarks (known_of (suc i) ns) → HaveMarks (known_at i ps ++ known_of (suc i) ns)
    by [] rest = rest
    by (p ∷ ps) rest = ((λ none. cc), rest)

listed_marks : (ks : List Mark) → HaveMarks (map place_and_marks ks) → AreUsed ks
listed_marks [] all = tt
listed_marks (k ∷ ks) all = (all.0, listed_marks ks all.1)

pub known_used : (ks : List Mark) (ns : List Node) → map place_and_marks ks ≡ known_of 0 ns → AreUsed ks
known_used ks ns known = listed_marks ks (subst HaveMarks (sym known) (known_marks 0 ns))

-- ---- the first node

abbrev first_place : List MarkedPlace → ℕ
first_place [] = 0
first_place (e ∷ es) = e.0

abbrev first_paths : List MarkedPlace → List (List ℕ)
first_paths [] = []
first_paths (e ∷ es) = e.1

abbrev others : List MarkedPlace → List MarkedPlace
others [] = []
others (e ∷ es) = es

-- what is known first is of the first node, or of a later one
first_later : (i : ℕ) (ns : List Node) (e : MarkedPlace) (es : List MarkedPlace) → known_of i ns ≡ e ∷ es → i ≤ e.0
first_later i [] e es is = absurd (cc)
first_later i (n ∷ ns) e es is = by (first_later (suc i) ns e es) (marks_of is_registered n) is
  where
    by : (known_of (suc i) ns ≡ e ∷ es → suc i ≤ e.0) → (ps : List (List ℕ)) → known_at i ps ++ known_of (suc i) ns ≡ e ∷ es → i ≤ e.0
    by later [] is = omega (arith, later is)
    by later (p ∷ ps) is = omega (arith, ap first_place is)

-- a node is the one of which it is known, and the rest is known of the others
abbrev pub Taken : ℕ → Node → List Node → MarkedPlace → List MarkedPlace → Type 0
Taken i n ns e es = (e.1 ≡ marks_of is_registered n) × (es ≡ known_of i ns)

taken : (i : ℕ) (n : Node) (ns : List Node) (e : MarkedPlace) (es : List MarkedPlace) → e ∷ es ≡ known_of i (n ∷ ns) → e.0 ≡ i → Taken (suc i) n ns e es
taken i n ns e es is at = by (marks_of is_registered n) is
  where
    by : (ps : List (List ℕ)) → e ∷ es ≡ known_at i ps ++ known_of (suc i) ns → (e.1 ≡ ps) × (es ≡ known_of (suc i) ns)
    by [] is = absurd (omega (arith, at, first_later (suc i) ns e es (sym is)))
    by (p ∷ ps) is = (ap first_paths is, ap others is)

pub next_taken : (count left left' : ℕ) (ms ms' : List Node) (n : Node) (e : MarkedPlace) (es : List MarkedPlace) → left ≤ count → left' + 1 ≡ left → ms ≡ n ∷ ms' → e ∷ es ≡ known_of (count - left) ms → e.0 ≡ count - left
    → Taken (count - left') n ms' e es
next_taken count left left' ms ms' n e es fits one first known at =
    let i : suc (count - left) ≡ count - left' = omega (arith, fits, one) in
    let all = taken (count - left) n ms' e es (known ∙ ap (known_of (count - left)) first) at in
    (all.0, all.1 ∙ ap (λ k. known_of k ms') i)

-- what is known is of none of a place
abbrev pub IsElsewhere : ℕ → List MarkedPlace → Type 0
IsElsewhere i es = (e : MarkedPlace) (more : List MarkedPlace) → es ≡ e ∷ more → e.0 ≡ i → ⊥

pub nothing_here : (i : ℕ) (es : List MarkedPlace) → es ≡ [] → IsElsewhere i es
nothing_here i es none e more is at = absurd (cc)

-- a node is none of which anything is known
abbrev pub Passed : ℕ → Node → List Node → List MarkedPlace → Type 0
Passed i n ns es = (marks_of is_registered n ≡ []) × (es ≡ known_of i ns)

passed : (i : ℕ) (n : Node) (ns : List Node) (es : List MarkedPlace) → es ≡ known_of i (n ∷ ns) → IsElsewhere i es → Passed (suc i) n ns es
passed i n ns es is other = by (marks_of is_registered n) is
  where
    by : (ps : List (List ℕ)) → es ≡ known_at i ps ++ known_of (suc i) ns → (ps ≡ []) × (es ≡ known_of (suc i) ns)
    by [] is = (refl, is)
    by (p ∷ ps) is = absurd (other (i, p ∷ ps) (known_of (suc i) ns) is refl)

pub next_passed : (count left left' : ℕ) (ms ms' : List Node) (n : Node) (es : List MarkedPlace) → left ≤ count → left' + 1 ≡ left → ms ≡ n ∷ ms' → es ≡ known_of (count - left) ms → IsElsewhere (count - left) es
    → Passed (count - left') n ms' es
next_passed count left left' ms ms' n es fits one first known other =
    let i : suc (count - left) ≡ count - left' = omega (arith, fits, one) in
    let all = passed (count - left) n ms' es (known ∙ ap (known_of (count - left)) first) other in
    (all.0, all.1 ∙ ap (λ k. known_of k ms') i)
