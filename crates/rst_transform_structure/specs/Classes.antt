-- Classes that `class` directives without content give to the elements after them (reStructuredText Directives, 'Class').
use Rattle.std.specs.Prelude.{◌≡◌, ℕ, ◌==◌, Bool, true, false, ◌&&◌, ◌||◌, not, Option, List, [], ◌∷◌, ◌++◌, length, filter, slice_get, Some, if◌then◌else◌, codes}
use Rattle.rst_tree.specs.declared.key.Key.TheVariants.{Classes}
use Rattle.rst_tree.specs.declared.node.Node.{Node}
use Rattle.rst_tree.specs.declared.node.Node.TheVariants.{Element, Text}
use Rattle.rst_tree.specs.declared.note.Level.TheVariants.{Error}
use Rattle.rst_tree.specs.declared.tag.Tag.{Tag}
use Rattle.rst_tree.specs.declared.tag.Tag.TheVariants.{Class, Comment, Contents, SubstitutionDefinition, SystemMessage, Target}
use Rattle.rst_tree.specs.Forest.{Forest, bare, element, words}
use Rattle.rst_tree.specs.Messages.{note_node}
use Rattle.rst_tree.specs.Nodes.{forest_of, nodes_of}
use Rattle.rst_transform_work.specs.Lists.{listed_texts, with_listed}
use Rattle.rst_transform_work.specs.declared.document.Document.{Document}
use Rattle.rst_transform_structure.specs.declared.classes.ClassReader.{ClassReader}

-- an element is the place of a `class` directive
abbrev pub is_class : Tag → Bool
is_class Class = true
is_class _ = false

-- an element takes no classes: it is a comment, a target, a substitution definition, a message, or a place that a transform fills
abbrev pub is_passed_over : Tag → Bool
is_passed_over Class = true
is_passed_over Comment = true
is_passed_over Contents = true
is_passed_over SubstitutionDefinition = true
is_passed_over SystemMessage = true
is_passed_over Target = true
is_passed_over _ = false

-- a node is an element that takes classes
abbrev pub takes_classes : Node → Bool
takes_classes (Element t a c l) = not (is_passed_over t)
takes_classes (Text t) = false

-- how many of some nodes are
abbrev pub classes_takers : List Node → ℕ
classes_takers nodes = length (filter takes_classes nodes)

-- the text of the message on a directive that no such element follows
abbrev pub unfollowed_text : List ℕ
unfollowed_text = codes "No suitable element following \"class\" directive"

-- the message, with the source text of the directive
abbrev pub unfollowed : List ℕ → ℕ → Node
unfollowed source line = note_node (record { level = Error; line = line; text = unfollowed_text; block = Some source })

-- the message by the first node in the directive's place, which is the source text
abbrev pub class_message : Option Node → ℕ → List Node
class_message (Some (Text source)) line = unfollowed source line ∷ []
class_message _ line = []

-- nodes before others, and the words that are left after these
abbrev pub put_before : List Node → List Node × List (List ℕ) → List Node × List (List ℕ)
put_before nodes others = (nodes ++ others.0, others.1)

-- What becomes of nodes with the places of directives among them and in them, and the words that are left after them; words were left before them. The
-- next element takes the words after its classes: the next sibling that takes classes, or else that of the nearest ancestor that has one. The place
-- goes. If no such element comes any more, as the nodes `end` the document and none of them follows, a message takes the place.
unfoldable pub classed : Bool → List (List ℕ) → Forest → List Node × List (List ℕ)
classed ends left bare = ([], left)
classed ends left (words t r) = put_before (Text t ∷ []) (classed ends left r)
classed ends left (element t a c l r) =
    let last = ends && classes_takers (nodes_of r) == 0 in
    let inside = classed last [] c in
    let own : List Node × List (List ℕ) =
    if is_class t then (if last then class_message (slice_get (nodes_of c) 0) l else [], left ++ listed_texts Classes a)
    else if is_passed_over t then (Element t a c l ∷ [], left)
    else (Element t (with_listed Classes left a) (forest_of inside.0) l ∷ [], inside.1) in
    put_before own.0 (classed ends own.1 r)

-- whether one of the elements that were read is the place of a directive
abbrev pub TakesClass : ClassReader → Option ℕ → Node → ClassReader → Option ℕ → Type 0
TakesClass old level (Text t) new inner = Unit {0}
TakesClass old level (Element t a c l) new inner = new.found ≡ (old.found || is_class t)

-- the document whose directives have given their words, where the part `directives` of the wider profile holds; without it there are none
abbrev pub with_classes : Bool → Document → Document
with_classes false document = document
with_classes true document = record document { children = forest_of (classed true [] document.children).0 }
