-- Lists of texts among the attributes of elements (Document Tree, `ids`, `names` and `dupnames`), and lists that have something for some places.
use Rattle.std.specs.Prelude.{ℕ, List, [], ◌∷◌, ◌++◌, slice_get, Option}
use Rattle.std.specs.Option.{option_flatten}
use Rattle.rst_tree.specs.declared.attrs.Attr.{Attr}
use Rattle.rst_tree.specs.declared.attrs.Value.TheVariants.{List as Listed}
use Rattle.rst_tree.specs.declared.key.Key.{Key}
use Rattle.rst_tree.specs.declared.node.Node.{Node}
use Rattle.rst_tree.specs.declared.node.Node.TheVariants.{Element, Text}
use Rattle.rst_tree.specs.declared.key.Key.TheVariants.{Ids, Names, Dupnames}
use Rattle.rst_tree.specs.Attributes.{value_of, with_attr, without_key}
use Rattle.rst_transform_work.specs.Reading.{members_in}

-- what the attribute of a name lists
abbrev pub listed_texts : Key → List Attr → List (List ℕ)
listed_texts k attrs = members_in (value_of k attrs)

-- the attributes with texts, if there are some, after those that the attribute of a name lists
abbrev pub with_listed : Key → List (List ℕ) → List Attr → List Attr
with_listed k [] attrs = attrs
with_listed k (text ∷ more) attrs = with_attr k (Listed (listed_texts k attrs ++ text ∷ more)) (without_key k attrs)

-- the attributes with what other attributes list under a name after what they list there
abbrev pub with_list_of : Key → List Attr → List Attr → List Attr
with_list_of k from attrs = with_listed k (listed_texts k from) attrs

-- the attributes with the ids, names and lost names of others after their own
abbrev pub with_names : List Attr → List Attr → List Attr
with_names from attrs = with_list_of Dupnames from (with_list_of Names from (with_list_of Ids from attrs))

-- what a list has for a place, if it has something there
abbrev pub at_place : {A : Type 0} → List (Option A) → ℕ → Option A
at_place list place = option_flatten (slice_get list place)

-- a node with more ids and names
abbrev pub named : List Attr → Node → Node
named from (Element t a c l) = Element t (with_names from a) c l
named from (Text t) = Text t
