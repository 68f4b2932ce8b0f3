-- Internal targets, which hand their ids and names to the elements after them (reStructuredText Markup Specification, 'Internal
-- Hyperlink Targets').
use Rattle.std.specs.Prelude.{◌≡◌, ℕ, List, [], ◌∷◌, ◌++◌, drop, is_some, Option, Bool, true, false, ◌&&◌, if◌then◌else◌}
use Rattle.rst_tree.specs.declared.attrs.Attr.{Attr}
use Rattle.rst_tree.specs.declared.attrs.Value.TheVariants.{Text as Says}
use Rattle.rst_tree.specs.declared.key.Key.TheVariants.{Dupnames, Ids, Names as OfNames, Refid, Serial}
use Rattle.rst_tree.specs.declared.node.Node.{Node}
use Rattle.rst_tree.specs.declared.node.Node.TheVariants.{Element, Text}
use Rattle.rst_tree.specs.declared.tag.Tag.{Tag}
use Rattle.rst_tree.specs.declared.tag.Tag.TheVariants.{Citation, Comment, Footnote, SubstitutionDefinition, SystemMessage, Transition}
use Rattle.rst_tree.specs.Forest.{Forest, bare, element, words}
use Rattle.rst_tree.specs.Attributes.{as_number, value_of, with_attr, without_key}
use Rattle.rst_tree.specs.Walk.{Item, after, item, items, walked}
use Rattle.rst_tree_index.specs.Kinds.{is_internal}
use Rattle.rst_transform_work.specs.Known.{Known}
use Rattle.rst_transform_work.specs.Lists.{listed_texts, with_listed}
use Rattle.rst_transform_work.specs.declared.document.Document.{Document}
use Rattle.rst_transform_structure.specs.declared.targets.Taking.{Taking}
use Rattle.rst_transform_structure.specs.declared.targets.Taking.TheVariants.{Passed, Refuses, Takes}
use Rattle.rst_transform_structure.specs.Passing.{passed, paired_with_number}

-- What an element of a kind is to a target before it: it takes the ids and names of the target, or the target keeps them, or the element is passed
-- over. Where the part `unmarked` of the wider profile holds, messages are passed over, transitions take ids and names, and footnotes and citations
-- don't.
abbrev pub taker : Bool → Tag → Taking
taker unmarked Comment = Refuses
taker unmarked SubstitutionDefinition = Refuses
taker unmarked SystemMessage = if unmarked then Passed else Refuses
taker unmarked Transition = if unmarked then Takes else Refuses
taker unmarked Footnote = if unmarked then Refuses else Takes
taker unmarked Citation = if unmarked then Refuses else Takes
taker unmarked _ = Takes

abbrev pub is_passed : Taking → Bool
is_passed Passed = true
is_passed _ = false

-- the same, of an element that is inside one that is passed over, or isn't: what is inside one is passed over with it
abbrev pub passed_or_taker : Bool → Bool → Tag → Taking
passed_or_taker inside unmarked tag = if inside then Passed else taker unmarked tag

-- of each element among nodes and in them, in document order
abbrev pub takers : Bool → Bool → Forest → List Taking
takers unmarked inside bare = []
takers unmarked inside (words t r) = takers unmarked inside r
takers unmarked inside (element t a c l r) =
    let own = passed_or_taker inside unmarked t in own ∷ (takers unmarked (is_passed own) c ++ takers unmarked inside r)

-- whether the first of some elements is passed over
abbrev pub is_first_passed : List Taking → Bool
is_first_passed [] = false
is_first_passed (one ∷ more) = is_passed one

-- whether the first of them that isn't passed over takes ids and names
abbrev pub first_takes : List Taking → Bool
first_takes [] = false
first_takes (Takes ∷ more) = true
first_takes (Refuses ∷ more) = false
first_takes (Passed ∷ more) = first_takes more

-- what was read of elements under `unmarked`, or without it, and one more element, which is inside one that is passed over if it has a level
pub record ReadTakers : Type 0 where
  pub unmarked : Bool
  pub list : List Taking

abbrev pub read_takers : Bool → List Taking → ReadTakers
read_takers unmarked list = record { unmarked = unmarked; list = list }

abbrev pub TakesTaker : ReadTakers → Option ℕ → Node → ReadTakers → Option ℕ → Type 0
TakesTaker old level (Text t) new inner = Unit {0}
TakesTaker old level (Element t a c l) new inner =
    let own = passed_or_taker (is_some level) old.unmarked t in
    (new ≡ read_takers old.unmarked (old.list ++ own ∷ [])) × (is_some inner ≡ is_passed own)

-- ids and names that an element gets
pub record Handed : Type 0 where
  pub ids : List (List ℕ)
  pub names : List (List ℕ)

abbrev pub handed : List (List ℕ) → List (List ℕ) → Handed
handed ids names = record { ids = ids; names = names }

-- those of a target with these attributes, and after them what it got itself
abbrev pub handed_by : List Attr → Handed → Handed
handed_by attrs h = handed (listed_texts Ids attrs ++ h.ids) (listed_texts OfNames attrs ++ h.names)

-- the attributes of an element that got ids and names: they come after its own
abbrev pub with_ids_and_names : Handed → List Attr → List Attr
with_ids_and_names h attrs = with_listed OfNames h.names (with_listed Ids h.ids attrs)

-- the attributes with a reference to the first of some ids, if there is one
abbrev pub with_first_refid : List (List ℕ) → List Attr → List Attr
with_first_refid [] attrs = attrs
with_first_refid (id ∷ more) attrs = with_attr Refid (Says id) attrs

-- The attributes of a target that has handed on its ids and names: it refers to its own first id. Under `unmarked` it keeps the names that it has lost.
abbrev pub referring : Bool → List Attr → List Attr
referring unmarked attrs =
    let left = without_key OfNames (without_key Ids attrs) in
    with_first_refid (listed_texts Ids attrs) (if unmarked then left else without_key Dupnames left)

-- What is known at an element in document order: whether `unmarked` holds, what this element and each one after it is to a target before it, what it
-- gets of the target before it, and the names that those before it got and keep, each with the element's number.
pub record Reached : Type 0 where
  pub unmarked : Bool
  pub takers : List Taking
  pub handed : Handed
  pub got : List (List ℕ × Option ℕ)

abbrev pub reached : Bool → List Taking → Handed → List (List ℕ × Option ℕ) → Reached
reached unmarked takers handed got = record { unmarked = unmarked; takers = takers; handed = handed; got = got }

-- at the first of some elements
abbrev pub at_first : Bool → Forest → Reached
at_first unmarked nodes = reached unmarked (takers unmarked false nodes) (handed [] []) []

-- A target hands its ids and names to the next element in document order that isn't passed over, if that takes them. An internal target contains no
-- element, so it is its next sibling, or else the next sibling of the nearest ancestor that has one.
abbrev pub hands_on : Reached → Item → Bool
hands_on r x = is_internal x && first_takes (drop 1 r.takers)

-- names that an element with these attributes got, each with the element's number, if it has one
abbrev pub got_by : List Attr → List (List ℕ) → List (List ℕ × Option ℕ)
got_by attrs names = paired_with_number (as_number (value_of Serial attrs)) names

-- at the next element: what is passed over leaves to the elements after it what was handed on
abbrev pub next_reached : Reached → Item → Reached
next_reached r x =
    if is_first_passed r.takers then record r { takers = drop 1 r.takers }
    else (if hands_on r x then record r { takers = drop 1 r.takers; handed = handed_by x.attrs r.handed }
    else reached r.unmarked (drop 1 r.takers) (handed [] []) (r.got ++ got_by x.attrs r.handed.names))

-- the attributes that an element has then
abbrev pub changed_attrs : Reached → Item → List Attr
changed_attrs r x =
    if is_first_passed r.takers then x.attrs
    else (if hands_on r x then referring r.unmarked x.attrs else with_ids_and_names r.handed x.attrs)

-- what happens to the element
abbrev pub changed_item : Reached → Item → Item
changed_item r x = item x.tag (changed_attrs r x) x.line

-- The document whose internal targets have handed on their ids and names, under `unmarked` or without it, and what is known then: elements hold the
-- names that they got.
abbrev pub with_targets : Bool → Document → Known → Document × Known
with_targets unmarked document known =
    let start = at_first unmarked document.children in (
      record document { children = walked next_reached changed_item start document.children },
      record known { names = passed (after next_reached changed_item start (items document.children)).got known.names },
    )
