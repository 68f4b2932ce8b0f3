-- Without messages on equal names the document is the same.
use Rattle.std.proofs.Common.{◌≡◌, ℕ, zero, suc, true≢false, List, [], ◌∷◌, ◌++◌, Bool, true, false, Option, Some, None, refl, ap, ◌∙◌, append_assoc}
use Rattle.std.specs.Prelude.{if◌then◌else◌, is_some, option_and_then, replicate}
use Rattle.std.specs.List.{list_any}
use Rattle.std.specs.Option.{option_to_list}
use Rattle.std.proofs.Math.Path.{fun_ext}
use Rattle.std.proofs.lemmas.Bool.{cond_both}
use Rattle.std.proofs.lemmas.List.{append-nil}
use Rattle.rst_tree.specs.declared.attrs.Attr.{Attr}
use Rattle.rst_tree.specs.declared.key.Key.TheVariants.{Serial}
use Rattle.rst_tree.specs.declared.node.Node.{Node}
use Rattle.rst_tree.specs.declared.node.Node.TheVariants.{Element, Text}
use Rattle.rst_tree.specs.declared.tag.Tag.{Tag}
use Rattle.rst_tree.specs.Attributes.{as_number, value_of}
use Rattle.rst_tree.specs.Forest.{Forest, bare, element, words}
use Rattle.rst_tree.specs.Nodes.{forest_of, nodes_of}
use Rattle.rst_tree.proofs.Changes.{forest_of-nodes_of}
use Rattle.rst_transform_names.specs.declared.queue.Queued.TheVariants.{Present, New}
use Rattle.rst_transform_names.specs.NameMessages.{after_next, before_next, beginning, counted, filled, first_queue, goes_out, is_inline, is_section, message_on, taken, takes_in, with_due, with_filled_element, with_name_messages, with_own, Filled, Queue}

pub either_none : {X : Type 0} (b : Bool) → ◌≡◌ {A = List X} (if b then [] else []) []
either_none true = refl
either_none false = refl

-- no message on a name is in a queue
abbrev ArePresent : Queue → Type 0
ArePresent [] = Unit {0}
ArePresent (Present ∷ queue) = ArePresent queue
ArePresent (New message ∷ queue) = ⊥

present-before : (queue : Queue) → ArePresent queue → before_next queue ≡ []
present-before [] present = refl
present-before (Present ∷ queue) present = refl
present-before (New message ∷ queue) present = absurd present

present-after : (queue : Queue) → ArePresent queue → ArePresent (after_next queue)
present-after [] present = tt
present-after (Present ∷ queue) present = present
present-after (New message ∷ queue) present = absurd present

present-append : (queue more : Queue) → ArePresent queue → ArePresent more → ArePresent (queue ++ more)
present-append [] more present others = others
present-append (Present ∷ queue) more present others = present-append queue more present others
present-append (New message ∷ queue) more present others = absurd present

present-replicate : (count : ℕ) → ArePresent (replicate count Present)
present-replicate zero = tt
present-replicate (suc count) = present-replicate count

-- nodes that give no message
record Quiet (nodes : List Node) (f : Filled) : Type 0 where
  same : f.nodes ≡ nodes
  before : f.before ≡ []
  queue : ArePresent f.queue

beginning-none : (t : Tag) (a : List Attr) → Quiet [] (beginning t a)
beginning-none t a = record { same = refl; before = refl; queue = cond_both (is_section t) [] (replicate (counted a) Present) ArePresent (λ _. tt) (λ _. present-replicate (counted a)) }

first-none : (t : Tag) (a : List Attr) (queue : Queue) → ArePresent queue → ArePresent (first_queue t a [] queue)
first-none t a queue present =
    cond_both (takes_in t) queue (if is_section t then Present ∷ replicate (counted a) Present ++ [] else []) ArePresent (λ _. present)
    (λ _. cond_both (is_section t) (Present ∷ replicate (counted a) Present ++ []) [] ArePresent (λ _. present-append (replicate (counted a) Present) [] (present-replicate (counted a)) tt) (λ _. tt))

due-none : (first due : Queue) (nodes : List Node) (f : Filled) → ArePresent first → ArePresent due → Quiet nodes f → Quiet nodes (with_due first due f)
due-none first due nodes f o d q = record { same = simp (present-before due d, present-before first o, append-nil) q.same; before = q.before; queue = q.queue }

own-none : (t : Tag) (a : List Attr) (nodes : List Node) (f : Filled) → Quiet nodes f → Quiet nodes (with_own t a [] f)
own-none t a nodes f q =
    let inline : Quiet nodes (record f { queue = f.queue ++ [] }) = record { same = q.same; before = q.before; queue = present-append f.queue [] q.queue tt } in
    let other : Quiet nodes (record f { before = f.before ++ [] }) = record { same = q.same; before = rw q.before refl; queue = q.queue } in
    cond_both (is_section t) f (if is_inline a then record f { queue = f.queue ++ [] } else record f { before = f.before ++ [] }) (Quiet nodes) (λ _. q)
    (λ _. cond_both (is_inline a) (record f { queue = f.queue ++ [] }) (record f { before = f.before ++ [] }) (Quiet nodes) (λ _. inline) (λ _. other))

taken-none : (t : Tag) (nodes : List Node) (f : Filled) → Quiet nodes f → Quiet nodes (taken t f)
taken-none t nodes f q = record { same = q.same; before = q.before; queue = cond_both (takes_in t) [] f.queue ArePresent (λ _. tt) (λ _. q.queue) }

element-none : (p t : Tag) (a : List Attr) (l : ℕ) (c : Forest) (nodes : List Node) (inside f : Filled) → Quiet (nodes_of c) inside → Quiet nodes f → Quiet (nodes ++ Element t a c l ∷ []) (with_filled_element p t a l inside f)
element-none p t a l c nodes inside f i q = record {
  same = rw (q.same, i.before, either_none, append-nil, i.same, forest_of-nodes_of c) refl;
  before = rw (q.before, i.before, either_none) refl;
  queue = present-append f.queue (if goes_out p t a then inside.queue else []) q.queue (cond_both (goes_out p t a) inside.queue [] ArePresent (λ _. i.queue) (λ _. tt));
}

filled-none : (p : Tag) (first due : Queue) (nodes : List Node) (f : Filled) (c : Forest) → ArePresent first → ArePresent due → Quiet nodes f → Quiet (nodes ++ nodes_of c) (filled (λ a. []) p first due f c)
filled-none p first due nodes f bare o d q = rw append-nil (due-none first due nodes f o d q)
filled-none p first due nodes f (words t r) o d q =
    let rest = filled-none p first due (nodes ++ Text t ∷ []) (record f { nodes = f.nodes ++ Text t ∷ [] }) r o d (record { same = ap (λ ns. ns ++ Text t ∷ []) q.same; before = q.before; queue = q.queue }) in
    rw append_assoc at rest
filled-none p first due nodes f (element t a c l r) o d q =
    let begun = first_queue t a [] f.queue in
    let inside = with_own t a [] (filled (λ a. []) t begun [] (beginning t a) c) in
    let i : Quiet (nodes_of c) inside = own-none t a (nodes_of c) (filled (λ a. []) t begun [] (beginning t a) c) (filled-none t begun [] [] (beginning t a) c (first-none t a f.queue q.queue) tt (beginning-none t a)) in
    let f' = taken t (with_due first due f) in
    let after : ArePresent (after_next due ++ (if goes_out p t a then [] else inside.queue)) = present-append (after_next due) (if goes_out p t a then [] else inside.queue) (present-after due d) (cond_both (goes_out p t a) [] inside.queue ArePresent (λ _. tt) (λ _. i.queue)) in
    let rest = filled-none p (after_next first) (after_next due ++ (if goes_out p t a then [] else inside.queue)) (nodes ++ Element t a c l ∷ []) (with_filled_element p t a l inside f') r (present-after first o) after
    (element-none p t a l c nodes inside f' i (taken-none t nodes (with_due first due f) (due-none first due nodes f o d q))) in
    rw append_assoc at rest

-- no message is that on the name of an element
pub none_there : (messages : List (Option Node)) → list_any is_some messages ≡ false → (number : ℕ) → message_on messages number ≡ None
none_there [] none number = refl
none_there (None ∷ more) none zero = refl
none_there (None ∷ more) none (suc number) = none_there more none number
none_there (Some message ∷ more) none number = absurd (true≢false none)

none_numbered : (number : Option ℕ) → ◌≡◌ {A = List Node} (option_to_list (option_and_then (λ (n : ℕ). None) number)) []
none_numbered None = refl
none_numbered (Some n) = refl

pub without_name_messages : (document : Node) → with_name_messages (λ number. None) document ≡ document
without_name_messages (Text t) = refl
without_name_messages (Element t a c l) =
    ap (λ own. Element t a (forest_of (filled own t [] [] (beginning t a) c).nodes) l) (fun_ext (λ b. none_numbered (as_number (value_of Serial b))))
    ∙ rw ((filled-none t [] [] [] (beginning t a) c tt tt (beginning-none t a)).same, forest_of-nodes_of c) refl
