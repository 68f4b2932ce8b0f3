-- The messages of the last section, one after the other.
use Rattle.std.proofs.Common.{◌≡◌, ◌∙◌, ℕ, ◌+◌, ◌<◌, List, [], ◌∷◌, ◌++◌, length, map, set, get_or, take, drop, append_assoc, append-nil, sym, ap, ap₂, arith, false}
use Rattle.std.specs.List.{filter}
use Rattle.std.proofs.Math.Seq.{get_or-append_seam, set-append_seam}
use Rattle.std.proofs.lemmas.List.{drop_more, length-append, length-map, length-take-le, map-append, take-append-drop, take_more}
use Rattle.std.proofs.lemmas.List.Elements.{filter-append}
use Rattle.rst_tree.specs.Forest.{Forest}
use Rattle.rst_tree.specs.Nodes.{forest_of, nodes_of}
use Rattle.rst_tree.proofs.Changes.{nodes_of-forest_of, forest_of-nodes_of}
use Rattle.rst_transform_work.specs.declared.report.Report.{Report}
use Rattle.rst_transform_work.specs.Reports.{report_node}
use Rattle.rst_transform_structure.specs.LastSection.{heading, ids_moved, own_nodes}

own-append : (xs ys : List Report) → own_nodes (xs ++ ys) ≡ own_nodes xs ++ own_nodes ys
own-append xs ys = ap (map report_node) (filter-append (λ one. one.own) xs ys) ∙ map-append report_node (filter (λ one. one.own) xs) (filter (λ one. one.own) ys)

-- the first messages have handed over their ids
abbrev pub moved_to : ℕ → List Report → List Report
moved_to i xs = map ids_moved (take i xs) ++ drop i xs

same_length : (i : ℕ) (xs : List Report) → length (moved_to i xs) ≡ length xs
same_length i xs =
    length-append (map ids_moved (take i xs)) (drop i xs) ∙ ap (λ n. n + length (drop i xs)) (length-map (take i xs) ids_moved) ∙ sym (length-append (take i xs) (drop i xs)) ∙ ap length (take-append-drop i xs)

-- one more message adds its node, if it has one, and hands over its ids
pub one_more : (xs now : List Report) (first next : Forest) (i : ℕ) (one new : Report) → now ≡ moved_to i xs → first ≡ forest_of (heading ∷ own_nodes (take i xs)) → i < length now → one ≡ get_or now i one
    → next ≡ forest_of (nodes_of first ++ own_nodes (one ∷ [])) → new ≡ ids_moved one
    → (next ≡ forest_of (heading ∷ own_nodes (take (i + 1) xs))) × (set now i new ≡ moved_to (i + 1) xs)
one_more xs now first next i one new is nodes within at put hands =
    let fits : i < length xs = let e = ap length is ∙ same_length i xs in omega (arith, e, within) in
    let x : Report = get_or xs i one in
    let before : List Report = map ids_moved (take i xs) in
    let place : length before ≡ i = length-map (take i xs) ids_moved ∙ length-take-le i xs (omega (arith, fits)) in
    let split : now ≡ before ++ x ∷ drop (i + 1) xs = is ∙ ap (λ ys. before ++ ys) (drop_more xs i one fits) in
    let same : one ≡ x = at ∙ ap₂ (λ ys k. get_or ys k one) split (sym place) ∙ get_or-append_seam before x (drop (i + 1) xs) one in
    let more : take i xs ++ one ∷ [] ≡ take (i + 1) xs = ap (λ y. take i xs ++ y ∷ []) same ∙ sym (take_more xs i one fits) in (
      put ∙ ap (λ ns. forest_of (ns ++ own_nodes (one ∷ []))) (ap nodes_of nodes ∙ nodes_of-forest_of (heading ∷ own_nodes (take i xs)))
          ∙ ap (λ ns. forest_of (heading ∷ ns)) (sym (own-append (take i xs) (one ∷ [])) ∙ ap own_nodes more),
      ap₂ (λ ys k. set ys k new) split (sym place) ∙ set-append_seam before x (drop (i + 1) xs) new
          ∙ ap (λ y. before ++ y ∷ drop (i + 1) xs) hands ∙ sym (append_assoc before (ids_moved one ∷ []) (drop (i + 1) xs))
          ∙ ap (λ ys. ys ++ drop (i + 1) xs) (sym (map-append ids_moved (take i xs) (one ∷ [])) ∙ ap (map ids_moved) more),
    )

-- a message that isn't in the section adds nothing
pub none_added : (nodes : Forest) (one : Report) → one.own ≡ false → nodes ≡ forest_of (nodes_of nodes ++ own_nodes (one ∷ []))
none_added nodes one none = rw none (sym (ap forest_of (append-nil (nodes_of nodes)) ∙ forest_of-nodes_of nodes))
