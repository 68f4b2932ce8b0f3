-- The places of transitions, and the messages on those in places where none may be (reStructuredText Markup Specification, 'Transitions').
-- No element but the document and its sections contains a transition.
use Rattle.std.specs.Prelude.{ℕ, ◌-◌, ◌==◌, Bool, true, false, ◌&&◌, not, List, [], ◌∷◌, ◌++◌, drop, length, slice_get, take, Option, Some, None, if◌then◌else◌, codes}
use Rattle.std.specs.List.{filter}
use Rattle.rst_tree.specs.declared.attrs.Attr.{Attr}
use Rattle.rst_tree.specs.declared.node.Node.{Node}
use Rattle.rst_tree.specs.declared.node.Node.TheVariants.{Element, Text}
use Rattle.rst_tree.specs.declared.note.Level.TheVariants.{Error}
use Rattle.rst_tree.specs.declared.tag.Tag.{Tag}
use Rattle.rst_tree.specs.Forest.{Forest, bare, element, words}
use Rattle.rst_tree.specs.Nodes.{forest_of, nodes_of}
use Rattle.rst_tree.specs.Walk.{Item}
use Rattle.rst_tree_index.specs.Kinds.{is_transition}
use Rattle.rst_transform_names.specs.NameMessages.{is_section}
use Rattle.rst_transform_work.specs.declared.report.Report.{Report}
use Rattle.rst_transform_work.specs.declared.document.Document.{Document}
use Rattle.rst_transform_work.specs.Known.{Known}
use Rattle.rst_transform_work.specs.Reports.{next_report, report_node}
use Rattle.rst_transform_work.specs.Reading.{is_title}
use Rattle.rst_transform_structure.specs.declared.transitions.TransitionFault.{TransitionFault}
use Rattle.rst_transform_structure.specs.declared.transitions.TransitionFault.TheVariants.{AtBeginning, Adjacent, AtEnd}

-- there is a node, a transition
abbrev pub is_one : Option Node → Bool
is_one None = false
is_one (Some (Element t a c l)) = is_transition t
is_one (Some (Text t)) = false

-- a node is neither a section nor a transition
abbrev pub keeps_place : Node → Bool
keeps_place (Element t a c l) = not (is_section t) && not (is_transition t)
keeps_place (Text t) = true

-- the text of the message on a transition in a place where none may be
abbrev pub transition_fault_text : TransitionFault → List ℕ
transition_fault_text AtBeginning = codes "Document or section may not begin with a transition."
transition_fault_text Adjacent = codes "At least one body element must separate transitions; adjacent transitions are not allowed."
transition_fault_text AtEnd = codes "Document may not end with a transition."

-- What is wrong with a transition after one more node, if anything is: only titles may be between it and the beginning, and two may not be adjacent.
abbrev pub fault_after : Node → Option TransitionFault → Option TransitionFault
fault_after n fault = if is_title n then fault else if is_one (Some n) then Some Adjacent else None

-- the message on what is wrong with a transition of this line, if anything is, and all messages then; the very first one has the first number
unfoldable pub transition_message : ℕ → ℕ → Option TransitionFault → List Report → List Node × List Report
transition_message first line None reports = ([], reports)
transition_message first line (Some fault) reports =
    let next = next_report first reports Error line (transition_fault_text fault) false in (report_node next ∷ [], reports ++ next ∷ [])

-- A transition, after the message on what is wrong with it. If the document ends with it, which it may not either, a message follows it.
unfoldable pub placed_transition : ℕ → Option TransitionFault → Bool → Node → ℕ → List Report → List Node × List Report
placed_transition first fault last n line reports =
    let above = transition_message first line fault reports in
    let below = transition_message first line (if last then Some AtEnd else None) above.1 in (above.0 ++ n ∷ below.0, below.1)

-- how many of a section's nodes stay in it: all but a transition at its end
abbrev pub staying : List Node → ℕ
staying nodes = let others = length nodes - 1 in if is_one (slice_get nodes others) then others else length nodes

-- a section with these nodes: the transition at its end moves out, to after the section
abbrev pub placed_section : Tag → List Attr → ℕ → List Node → List Node
placed_section t a l nodes = Element t a (forest_of (take (staying nodes) nodes)) l ∷ drop (staying nodes) nodes

-- nodes before others
abbrev pub nodes_before : List Node → List Node × List Report → List Node × List Report
nodes_before nodes others = (nodes ++ others.0, others.1)

-- The nodes of the document or of a section, from one of them on, with their transitions in their places, and all messages then. The document ends with
-- them or goes on; and this is wrong with a transition that comes first among them.
unfoldable pub placed_in : ℕ → Bool → Option TransitionFault → Forest → List Report → List Node × List Report
placed_in first ends fault bare reports = ([], reports)
placed_in first ends fault (words t r) reports = nodes_before (Text t ∷ []) (placed_in first ends None r reports)
placed_in first ends fault (element t a c l r) reports =
    let last = ends && length (nodes_of r) == 0 in
    let inside = placed_in first last (Some AtBeginning) c reports in
    let own =
    if is_section t then (placed_section t a l inside.0, inside.1)
    else if is_transition t then placed_transition first fault last (Element t a c l) l reports
    else (Element t a c l ∷ [], reports) in
    nodes_before own.0 (placed_in first ends (fault_after (Element t a c l) fault) r own.1)

-- the document whose transitions have their places, and what is known then
abbrev pub with_transitions : Document → Known → Document × Known
with_transitions document known =
    let all = placed_in known.first_number true (Some AtBeginning) document.children known.reports in
    (record document { children = forest_of all.0 }, record known { reports = all.1 })

-- the transitions among some elements
abbrev pub transitions_in : List Item → List Item
transitions_in xs = filter (λ x. is_transition x.tag) xs
