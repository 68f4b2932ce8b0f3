-- The links of a document: the elements that references join, in document order, and what becomes of each (Markup Specification, 'Hyperlink
-- References').
use Rattle.std.specs.Prelude.{◌≡◌, ℕ, Bool, List, [], ◌∷◌, ◌++◌, filter, length, map, replicate, if◌then◌else◌, slice_get, slice_set, unwrap_or, Option, None}
use Rattle.std.specs.Borrow.{Bor}
use Rattle.std.specs.List.{fold, range_with_len}
use Rattle.rst_tree.specs.declared.node.Node.{Node}
use Rattle.rst_tree.specs.declared.node.Node.TheVariants.{Element, Text}
use Rattle.rst_tree.specs.Forest.{Forest, bare, element, words}
use Rattle.rst_tree_index.specs.LinkedTags.{is_linked_tag}
use Rattle.rst_transform_work.specs.declared.document.Document.{Document}
use Rattle.rst_transform_work.specs.Known.{Known}
use Rattle.rst_transform_references.specs.declared.links.Change.{Change}
use Rattle.rst_transform_references.specs.declared.links.LinkedReader.{LinkedReader}
use Rattle.rst_transform_references.specs.declared.links.Change.TheVariants.{Stays}
use Rattle.rst_transform_references.specs.Table.{Links}

-- a node, if it is linked
abbrev pub own_linked : Node → List Node
own_linked (Element t a c l) = if is_linked_tag t then Element t a c l ∷ [] else []
own_linked (Text t) = []

-- the linked elements among nodes and in them
abbrev pub linked_among : Forest → List Node
linked_among bare = []
linked_among (words t r) = linked_among r
linked_among (element t a c l r) = own_linked (Element t a c l) ++ (linked_among c ++ linked_among r)

-- nodes that are borrowed
abbrev pub nodes_now : List (Bor Node) → List Node
nodes_now = map (λ node. node.now)

-- those that were read, and one more
abbrev pub TakesLinked : LinkedReader → Option ℕ → Node → LinkedReader → Option ℕ → Type 0
TakesLinked old level node new inner = nodes_now new.list.items ≡ nodes_now old.list.items ++ own_linked node

-- those of a document; at first each stays as it is
abbrev pub links_of : Document → Links
links_of document = let linked : List Node = linked_among document.children in record { linked = linked; changes = replicate (length linked) (Stays None None) }

-- the element at a place, or an empty text if that became a problematic or is inside one
abbrev pub node_at : ℕ → Links → Node
node_at place links = unwrap_or (slice_get links.linked place) (Text [])

-- what becomes of it
abbrev pub change_at : ℕ → Links → Change
change_at place links = unwrap_or (slice_get links.changes place) (Stays None None)

-- all places, and those of elements of which a test holds
abbrev pub places_of : Links → List ℕ
places_of links = range_with_len 0 (length links.linked)

abbrev pub places_where : (Node → Bool) → Links → List ℕ
places_where test links = filter (λ place. test (node_at place links)) (places_of links)

-- this becomes of the element at a place
abbrev pub puts : ℕ → Change → Links → Links
puts place change links = record links { changes = slice_set links.changes place change }

-- something is done for one thing after another: to a list or to the links
abbrev pub all : {A S : Type 0} → (A → S → S) → List A → S → S
all step list state = fold (λ done one. step one done) state list

-- to the links and to what is known
abbrev pub each : {A : Type 0} → (A → Links → Known → Links × Known) → List A → Links → Known → Links × Known
each step list links known = fold (λ done one. step one done.0 done.1) (links, known) list
