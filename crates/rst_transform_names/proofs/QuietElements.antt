-- Elements that messages on equal names leave as they are.
use Rattle.std.proofs.Common.{◌≡◌, ℕ, List, [], ◌∷◌, ◌++◌, Bool, true, false, Option, Some, None, refl, ap, ◌∙◌, true≢false, append_assoc}
use Rattle.std.specs.Prelude.{if◌then◌else◌, not, is_some}
use Rattle.std.proofs.lemmas.Bool.{and_parts, cond_both, not-true, or_parts}
use Rattle.std.proofs.lemmas.List.{append-nil}
use Rattle.rst_tree.specs.declared.attrs.Attr.{Attr}
use Rattle.rst_tree.specs.declared.key.Key.TheVariants.{TextMessages}
use Rattle.rst_tree.specs.declared.node.Node.{Node}
use Rattle.rst_tree.specs.declared.node.Node.TheVariants.{Element, Text}
use Rattle.rst_tree.specs.declared.tag.Tag.{Tag}
use Rattle.rst_tree.specs.Attributes.{as_number, value_of}
use Rattle.rst_tree.specs.Forest.{Forest, bare, element, words}
use Rattle.rst_tree.specs.Nodes.{nodes_of}
use Rattle.rst_tree.proofs.Changes.{forest_of-nodes_of}
use Rattle.rst_transform_names.specs.NameMessages.{after_next, beginning, filled, first_queue, goes_out, is_inline, is_passed_over, is_section, own_message, takes_in, with_due, with_own, Filled, Queue}
use Rattle.rst_transform_names.specs.PlacingMessages.{are_quiet, gives_none, is_quiet}
use Rattle.rst_transform_names.proofs.NoNameMessages.{either_none}

nothing : {X : Type 0} (o : Option X) → is_some o ≡ false → o ≡ None
nothing None h = refl
nothing (Some x) h = absurd (true≢false h)

-- nodes alone
abbrev only : List Node → Filled
only ns = record { nodes = ns; before = []; queue = [] }

-- what is made of a quiet element's nodes, if they stay as they are
quiet_inside : (messages : ℕ → Option Node) (t : Tag) (a : List Attr) (c : Forest) (out : Queue) → gives_none messages t a ≡ true → (if takes_in t then out else []) ≡ []
    → filled (own_message messages) t [] [] (only []) c ≡ only (nodes_of c)
    → with_own t a (own_message messages a) (filled (own_message messages) t (first_queue t a (own_message messages a) out) [] (beginning t a) c) ≡ only (nodes_of c)
quiet_inside messages t a c out none takes stay =
    let parts = or_parts (is_section t) _ (not-true _ none) in
    let numbers = or_parts (is_some (as_number (value_of TextMessages a))) _ parts.1 in
    rw (nothing _ numbers.1, parts.0, nothing _ numbers.0, takes, stay) (cond_both (is_inline a) (only (nodes_of c)) (only (nodes_of c)) (λ f. f ≡ only (nodes_of c)) (λ _. refl) (λ _. refl))

-- nothing but the element comes to the nodes before it
settled : (own : List Attr → List Node) (p : Tag) (first due : Queue) (b d : Bool) (f : Filled) (e : Node) (r : Forest)
    → filled own p first (due ++ (if d then [] else [])) (record { nodes = (f.nodes ++ (if b then [] else [])) ++ e ∷ []; before = f.before ++ (if b then [] else []); queue = f.queue ++ (if d then [] else []) }) r
    ≡ filled own p first due (record f { nodes = f.nodes ++ e ∷ [] }) r
settled own p first due b d f e r = rw (either_none b, either_none d, append-nil f.nodes, append-nil f.before, append-nil f.queue, append-nil due) refl

-- quiet nodes stay as they are
quiet_filled : (messages : ℕ → Option Node) (p : Tag) (nodes : List Node) (c : Forest) → are_quiet messages c ≡ true → filled (own_message messages) p [] [] (only nodes) c ≡ only (nodes ++ nodes_of c)
quiet_filled messages p nodes bare quiet = rw append-nil refl
quiet_filled messages p nodes (words t r) quiet = quiet_filled messages p (nodes ++ Text t ∷ []) r quiet ∙ ap only (append_assoc nodes (Text t ∷ []) (nodes_of r))
quiet_filled messages p nodes (element t a c l r) quiet =
    let parts = and_parts _ _ quiet in
    let first = and_parts _ _ parts.0 in
    let inside = quiet_inside messages t a c [] first.0 (either_none (takes_in t)) (quiet_filled messages t [] c first.1) in
    let rest = quiet_filled messages p (nodes ++ Element t a c l ∷ []) r parts.1 in
    let due = append-nil (nodes ++ []) ∙ append-nil nodes in
    rw (inside, forest_of-nodes_of c, either_none (takes_in t))
    (settled (own_message messages) p [] [] (is_passed_over p) (goes_out p t a) (with_due [] [] (only nodes)) (Element t a c l) r
    ∙ ap (λ ns. filled (own_message messages) p [] [] (only (ns ++ Element t a c l ∷ [])) r) due ∙ rest ∙ ap only (append_assoc nodes (Element t a c l ∷ []) (nodes_of r)))

-- a quiet element stays as it is
pub quiet_step : (messages : ℕ → Option Node) (p t : Tag) (a : List Attr) (l : ℕ) (c r : Forest) (first due : Queue) (f : Filled) → is_quiet messages t a c ≡ true
    → filled (own_message messages) p first due f (element t a c l r) ≡ filled (own_message messages) p (after_next first) (after_next due) (record (with_due first due f) { nodes = (with_due first due f).nodes ++ Element t a c l ∷ [] }) r
quiet_step messages p t a l c r first due f quiet =
    let parts = and_parts (not (takes_in t)) _ quiet in
    let here = and_parts (gives_none messages t a) _ parts.1 in
    let none = not-true _ parts.0 in
    let inside = quiet_inside messages t a c f.queue here.0 (rw none refl) (quiet_filled messages t [] c here.1) in
    rw (inside, forest_of-nodes_of c, none) (settled (own_message messages) p (after_next first) (after_next due) (is_passed_over p) (goes_out p t a) (with_due first due f) (Element t a c l) r)
