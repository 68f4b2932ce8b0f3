-- The transitions of a document stay in it, in document order.
use Rattle.std.proofs.Common.{◌≡◌, ◌∙◌, ℕ, List, [], ◌∷◌, ◌++◌, Bool, true, false, Option, Some, None, refl, ap, ap₂, sym, append_assoc, append-nil, take, drop}
use Rattle.std.specs.Prelude.{◌&&◌, ◌==◌, length, if◌then◌else◌}
use Rattle.std.proofs.lemmas.List.{take-append-drop}
use Rattle.std.proofs.lemmas.List.Elements.{filter-append}
use Rattle.rst_tree.specs.declared.attrs.Attr.{Attr}
use Rattle.rst_tree.specs.declared.node.Node.{Node}
use Rattle.rst_tree.specs.declared.node.Node.TheVariants.{Element, Text}
use Rattle.rst_tree.specs.declared.tag.Tag.{Tag}
use Rattle.rst_tree.specs.declared.tag.Tag.TheVariants.{Section}
use Rattle.rst_tree.specs.Forest.{Forest, bare, element, words}
use Rattle.rst_tree.specs.Nodes.{forest_of, join_node, nodes_of}
use Rattle.rst_tree.specs.Walk.{Item, item, items, node_items}
use Rattle.rst_tree_index.specs.Kinds.{is_transition}
use Rattle.rst_transform_names.specs.NameMessages.{is_section}
use Rattle.rst_transform_work.specs.declared.report.Report.{Report}
use Rattle.rst_transform_structure.specs.declared.transitions.TransitionFault.{TransitionFault}
use Rattle.rst_transform_structure.specs.declared.transitions.TransitionFault.TheVariants.{AtBeginning, AtEnd}
use Rattle.rst_transform_structure.specs.Law.{KeepsTransitions}
use Rattle.rst_transform_structure.specs.Transitions.{fault_after, keeps_place, transition_message, placed_in, placed_section, placed_transition, staying, transitions_in}
use Rattle.rst_transform_structure.proofs.Placing.{own_kept, own_of, own_section, own_transition}

-- those of some nodes
abbrev among : List Node → List Item
among ns = transitions_in (items (forest_of ns))

joined : (n : Node) (r : Forest) → transitions_in (items (join_node n r)) ≡ transitions_in (node_items n) ++ transitions_in (items r)
joined (Element t a c l) r = filter-append (λ x. is_transition x.tag) (item t a l ∷ items c) (items r)
joined (Text t) r = refl

among-append : (ms ns : List Node) → among (ms ++ ns) ≡ among ms ++ among ns
among-append [] ns = refl
among-append (m ∷ ms) ns =
    joined m (forest_of (ms ++ ns)) ∙ ap (λ xs. transitions_in (node_items m) ++ xs) (among-append ms ns)
    ∙ sym (append_assoc (transitions_in (node_items m)) (among ms) (among ns)) ∙ ap (λ xs. xs ++ among ns) (sym (joined m (forest_of ms)))

one : (n : Node) → among (n ∷ []) ≡ transitions_in (node_items n)
one n = joined n bare ∙ append-nil (transitions_in (node_items n))

-- a message is none
no_message : (first line : ℕ) (fault : Option TransitionFault) (reports : List Report) → among (transition_message first line fault reports).0 ≡ []
unfolding transition_message
no_message first line None reports = refl
no_message first line (Some fault) reports = refl

transition_kept : (first : ℕ) (fault : Option TransitionFault) (last : Bool) (n : Node) (line : ℕ) (reports : List Report) → among (placed_transition first fault last n line reports).0 ≡ transitions_in (node_items n)
unfolding placed_transition
transition_kept first fault last n line reports =
    let above = transition_message first line fault reports in
    let below = transition_message first line (if last then Some AtEnd else None) above.1 in
    among-append above.0 (n ∷ below.0) ∙ ap (λ xs. xs ++ among (n ∷ below.0)) (no_message first line fault reports)
    ∙ joined n (forest_of below.0) ∙ ap (λ xs. transitions_in (node_items n) ++ xs) (no_message first line (if last then Some AtEnd else None) above.1)
    ∙ append-nil (transitions_in (node_items n))

own_items : (t : Tag) (a : List Attr) (c : Forest) (l : ℕ) → is_section t ≡ true → transitions_in (node_items (Element t a c l)) ≡ transitions_in (items c)
own_items Section a c l is = refl
own_items _ a c l is = absurd (cc)

section_kept : (t : Tag) (a : List Attr) (l : ℕ) (nodes : List Node) → is_section t ≡ true → among (placed_section t a l nodes) ≡ among nodes
section_kept t a l nodes is =
    let n = staying nodes in
    joined (Element t a (forest_of (take n nodes)) l) (forest_of (drop n nodes)) ∙ ap (λ xs. xs ++ among (drop n nodes)) (own_items t a (forest_of (take n nodes)) l is)
    ∙ sym (among-append (take n nodes) (drop n nodes)) ∙ ap among (take-append-drop n nodes)

kept : (first : ℕ) (ends : Bool) (fault : Option TransitionFault) (f : Forest) (reports : List Report) → among (placed_in first ends fault f reports).0 ≡ transitions_in (items f)
unfolding placed_in
kept first ends fault bare reports = refl
kept first ends fault (words t r) reports = kept first ends None r reports
kept first ends fault (element t a c l r) reports =
    let n : Node = Element t a c l in
    let last : Bool = ends && length (nodes_of r) == 0 in
    let inside = placed_in first last (Some AtBeginning) c reports in
    let own : List Node × List Report = own_of first fault last n reports in
    let next : List Node = (placed_in first ends (fault_after n fault) r own.1).0 in
    let here : among own.0 ≡ transitions_in (node_items n) =
    elim (is_section t) as (λ x. is_section t ≡ x → among own.0 ≡ transitions_in (node_items n)) [
      | true ↦ λ is.
          ap (λ done. among done.0) (own_section first fault last n reports t a c l refl inside.0 inside.1 is refl) ∙ section_kept t a l inside.0 is ∙ kept first last (Some AtBeginning) c reports
          ∙ sym (own_items t a c l is)
      | false ↦ λ other. elim (is_transition t) as (λ x. is_transition t ≡ x → among own.0 ≡ transitions_in (node_items n)) [
        | true ↦ λ is. ap (λ done. among done.0) (own_transition first fault last n reports t a c l refl other is) ∙ transition_kept first fault last n l reports
        | false ↦ λ is. let keeps : keeps_place n ≡ true = rw (other, is) refl in ap (λ done. among done.0) (own_kept first fault last n reports keeps) ∙ one n
      ] refl
    ] refl in
    among-append own.0 next ∙ ap₂ (λ xs ys. xs ++ ys) here (kept first ends (fault_after n fault) r own.1) ∙ sym (joined n r)

pub transitions_stay : KeepsTransitions
transitions_stay document known = kept known.first_number true (Some AtBeginning) document.children known.reports
