-- Nodes that are none, or a text alone.
use Rattle.std.proofs.Common.{◌≡◌, List, ℕ, length, true, false, nat_eq, refl, arith}
use Rattle.std.specs.Prelude.{slice_get, Some, None}
use Rattle.std.proofs.lemmas.Bool.Decides.{nat_tests}
use Rattle.rst_tree.specs.declared.attrs.Attr.{Attr}
use Rattle.rst_tree.specs.declared.node.Node.TheVariants.{Element, Text}
use Rattle.rst_tree.specs.declared.tag.Tag.{Tag}
use Rattle.rst_tree.specs.Forest.{Forest, bare, element, words}
use Rattle.rst_tree.specs.Nodes.{are_plain, nodes_of}

-- the first node and how many there are determine it
pub first_text : (c : Forest) (t : List ℕ) (n : ℕ) → n ≡ length (nodes_of c) → slice_get (nodes_of c) 0 ≡ Some (Text t) → nat_eq n 1 ≡ are_plain c
first_text (words x bare) t n count first = rw count refl
first_text _ t n count first = grind (arith, nat_tests)

pub first_element : (f : Forest) (t : Tag) (a : List Attr) (c : Forest) (l : ℕ) → slice_get (nodes_of f) 0 ≡ Some (Element t a c l) → false ≡ are_plain f
first_element (element t' a' c' l' r) t a c l first = refl
first_element _ t a c l first = cc

pub no_first : (f : Forest) → slice_get (nodes_of f) 0 ≡ None → true ≡ are_plain f
no_first bare none = refl
no_first _ none = cc

-- what is gathered from elements is what is gathered from no node
pub nothing_gathered : {A : Type 0} (gather : Forest → A) → ((t : List ℕ) → gather (words t bare) ≡ gather bare) → (c : Forest) → are_plain c ≡ true → gather c ≡ gather bare
nothing_gathered gather past bare plain = refl
nothing_gathered gather past (words t bare) plain = past t
nothing_gathered gather past _ plain = cc

-- what changes elements changes nothing
pub nothing_changed : (change : Forest → Forest) → change bare ≡ bare → ((t : List ℕ) → change (words t bare) ≡ words t bare) → (c : Forest) → are_plain c ≡ true → change c ≡ c
nothing_changed change none past bare plain = none
nothing_changed change none past (words t bare) plain = past t
nothing_changed change none past _ plain = cc
