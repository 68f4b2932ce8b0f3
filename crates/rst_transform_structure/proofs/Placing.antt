-- Transitions that get their places in a loop, one node after another.
use Rattle.std.proofs.Common.{◌≡◌, ℕ, ◌-◌, List, [], ◌∷◌, ◌++◌, length, Bool, true, false, Option, Some, refl, ap, ap₂, sym, ◌∙◌, arith, append_assoc, append-nil}
use Rattle.std.proofs.lemmas.Bool.{and_parts, not-true}
use Rattle.std.specs.Prelude.{◌&&◌, ◌==◌, not, if◌then◌else◌}
use Rattle.std.specs.List.{list_all}
use Rattle.rst_tree.specs.declared.attrs.Attr.{Attr}
use Rattle.rst_tree.specs.declared.node.Node.{Node}
use Rattle.rst_tree.specs.declared.node.Node.TheVariants.{Element, Text}
use Rattle.rst_tree.specs.declared.tag.Tag.{Tag}
use Rattle.rst_tree.specs.Forest.{Forest}
use Rattle.rst_tree.specs.Nodes.{forest_of, nodes_of}
use Rattle.rst_tree.proofs.Changes.{nodes_of-forest_of}
use Rattle.rst_transform_work.specs.declared.context.Context.{Context}
use Rattle.rst_transform_work.specs.declared.report.Report.{Report}
use Rattle.rst_transform_work.specs.Reports.{KeepsRest}
use Rattle.rst_tree_index.specs.Kinds.{is_transition}
use Rattle.rst_transform_names.specs.NameMessages.{is_section}
use Rattle.rst_transform_structure.specs.declared.transitions.TransitionFault.{TransitionFault}
use Rattle.rst_transform_structure.specs.declared.transitions.TransitionFault.TheVariants.{AtBeginning}
use Rattle.rst_transform_structure.specs.Transitions.{nodes_before, fault_after, keeps_place, placed_in, placed_section, placed_transition}

-- what a node becomes, and the messages then
abbrev pub own_of : ℕ → Option TransitionFault → Bool → Node → List Report → List Node × List Report
own_of first fault last (Text t) reports = (Text t ∷ [], reports)
own_of first fault last (Element t a c l) reports =
    let inside = placed_in first last (Some AtBeginning) c reports in
    if is_section t then (placed_section t a l inside.0, inside.1)
    else if is_transition t then placed_transition first fault last (Element t a c l) l reports
    else (Element t a c l ∷ [], reports)

-- it comes before what the next nodes become
step : (first : ℕ) (ends : Bool) (fault : Option TransitionFault) (n : Node) (ns : List Node) (reports : List Report) (last : Bool) → last ≡ (ends && length ns == 0)
    → placed_in first ends fault (forest_of (n ∷ ns)) reports
    ≡ nodes_before (own_of first fault last n reports).0 (placed_in first ends (fault_after n fault) (forest_of ns) (own_of first fault last n reports).1)
unfolding placed_in
step first ends fault (Text t) ns reports last is = refl
step first ends fault (Element t a c l) ns reports last is =
    let e : last ≡ (ends && length (nodes_of (forest_of ns)) == 0) = is ∙ ap (λ (xs : List Node). ends && length xs == 0) (sym (nodes_of-forest_of ns)) in
    rw e refl

module _ (first : ℕ) (fault : Option TransitionFault) (last : Bool) (n : Node) (reports : List Report) where
  pub own_kept : keeps_place n ≡ true → own_of first fault last n reports ≡ (n ∷ [], reports)
  own_kept keeps = by n keeps
    where
      by : (m : Node) → keeps_place m ≡ true → own_of first fault last m reports ≡ (m ∷ [], reports)
      by (Text t) is = refl
      by (Element t a c l) is =
          let kinds = and_parts (not (is_section t)) (not (is_transition t)) is in
          let section : is_section t ≡ false = not-true _ kinds.0 in
          let transition : is_transition t ≡ false = not-true _ kinds.1 in
          rw (section, transition) refl

  module _ (t : Tag) (a : List Attr) (c : Forest) (l : ℕ) (is : n ≡ Element t a c l) where
    pub own_section : (inner : List Node) (after : List Report) → is_section t ≡ true → (inner, after) ≡ placed_in first last (Some AtBeginning) c reports → own_of first fault last n reports ≡ (placed_section t a l inner, after)
    own_section inner after kind inside = rw (is, kind, ← inside) refl

    pub own_transition : is_section t ≡ false → is_transition t ≡ true → own_of first fault last n reports ≡ placed_transition first fault last n l reports
    own_transition other kind = rw (is, other, kind) refl

-- none of these nodes is moved
pub all_keep : (first : ℕ) (ends : Bool) (fault : Option TransitionFault) (ns : List Node) (reports : List Report) → list_all keeps_place ns ≡ true → placed_in first ends fault (forest_of ns) reports ≡ (ns, reports)
unfolding placed_in
all_keep first ends fault [] reports all = refl
all_keep first ends fault (n ∷ ns) reports all =
    let parts = and_parts (keeps_place n) (list_all keeps_place ns) all in
    step first ends fault n ns reports _ refl
    ∙ ap (λ (own : List Node × List Report). nodes_before own.0 (placed_in first ends (fault_after n fault) (forest_of ns) own.1)) (own_kept first fault _ n reports parts.0)
    ∙ ap (nodes_before (n ∷ [])) (all_keep first ends (fault_after n fault) ns reports parts.1)

-- some nodes have their places: those that are left give what all give
pub record Placing (old : Context) (ends : Bool) (nodes : Forest) (left : ℕ) (met : List Node) (fault : Option TransitionFault) (placed : List Node) (context : Context) : Type 0 where
  pub same : (rest : List Node) → met ++ rest ≡ nodes_of nodes
      → (left ≡ length rest)
      × (nodes_before placed (placed_in old.first_number ends fault (forest_of rest) context.reports.items) ≡ placed_in old.first_number ends (Some AtBeginning) nodes old.reports.items)
  pub kept : KeepsRest old context

pub placing_all : (old : Context) (ends : Bool) (nodes : Forest) (left : ℕ) (met : List Node) (fault : Option TransitionFault) (placed : List Node) (context : Context)
    → Placing old ends nodes left met fault placed context → met ≡ nodes_of nodes → (placed, context.reports.items) ≡ placed_in old.first_number ends (Some AtBeginning) nodes old.reports.items
unfolding placed_in
placing_all old ends nodes left met fault placed context p all = ap (λ ns. (ns, context.reports.items)) (sym (append-nil placed)) ∙ (p.same [] (append-nil met ∙ all)).1

-- one more node
pub placing_more : (old : Context) (ends : Bool) (nodes : Forest) (left less : ℕ) (met : List Node) (fault next : Option TransitionFault) (placed placed' : List Node) (context context' : Context) (n : Node) (last : Bool) (own : List Node × List Report)
    → Placing old ends nodes left met fault placed context → less ≡ left - 1 → next ≡ fault_after n fault → last ≡ (ends && less == 0) → own_of context.first_number fault last n context.reports.items ≡ own
    → placed' ≡ placed ++ own.0 → context'.reports.items ≡ own.1 → KeepsRest context context' → Placing old ends nodes less (met ++ n ∷ []) next placed' context'
placing_more old ends nodes left less met fault next placed placed' context context' n last own p one wrong ended is put told kept =
    record {
      same = λ rest e.
          let h = p.same (n ∷ rest) (sym (append_assoc met (n ∷ []) rest) ∙ e) in
          let count : less ≡ length rest = let k = h.0 in omega (arith, k, one) in
          let first : ℕ = old.first_number in
          let others : List Node × List Report = placed_in first ends (fault_after n fault) (forest_of rest) own.1 in
          let same_first : context.first_number ≡ first = ap (λ (w : Context). w.first_number) p.kept in (
            count,
            ap (λ x. nodes_before placed' (placed_in first ends x (forest_of rest) context'.reports.items)) wrong
                ∙ ap₂ (λ ns rs. nodes_before ns (placed_in first ends (fault_after n fault) (forest_of rest) rs)) put told
                ∙ ap (λ ns. (ns, others.1)) (append_assoc placed own.0 others.0)
                ∙ ap (λ (q : List Node × List Report). nodes_before placed (nodes_before q.0 (placed_in first ends (fault_after n fault) (forest_of rest) q.1)))
                (sym is ∙ ap (λ k. own_of k fault last n context.reports.items) same_first)
                ∙ ap (nodes_before placed) (sym (step first ends fault n rest context.reports.items last (ended ∙ ap (λ k. ends && k == 0) count)))
                ∙ h.1,
          );
      kept = kept ∙ ap (λ (w : Context). record w { reports = context'.reports }) p.kept;
    }
