-- The document with the messages on equal names, each in its place (reStructuredText Markup Specification, 'Implicit Hyperlink
-- Targets'; Document Tree, 'system_message').
use Rattle.std.specs.Prelude.{ℕ, ◌||◌, Bool, true, false, if◌then◌else◌, List, [], ◌∷◌, ◌++◌, map, replicate, slice_index_or, Option, None, option_and_then, unwrap_or, is_some}
use Rattle.std.specs.Option.{option_to_list}
use Rattle.rst_tree.specs.declared.attrs.Attr.{Attr}
use Rattle.rst_tree.specs.declared.key.Key.TheVariants.{Inline, Serial, TextMessages}
use Rattle.rst_tree.specs.declared.node.Node.{Node}
use Rattle.rst_tree.specs.declared.node.Node.TheVariants.{Element, Text}
use Rattle.rst_tree.specs.declared.tag.Tag.{Tag}
use Rattle.rst_tree.specs.declared.tag.Tag.TheVariants.{Attribution, BlockQuote, Caption, Classifier, Definition, DefinitionListItem, Field, FieldBody, FieldName, Figure, Line, LineBlock, Reference, Section, SubstitutionDefinition, Term}
use Rattle.rst_tree.specs.Attributes.{as_number, value_of}
use Rattle.rst_tree.specs.Forest.{Forest, bare, element, words}
use Rattle.rst_tree.specs.Nodes.{forest_of}
use Rattle.rst_transform_names.specs.declared.queue.Queued.{Queued}
use Rattle.rst_transform_names.specs.declared.queue.Queued.TheVariants.{Present, New}

-- ---- what follows a text

-- the messages that follow a text, in order: its own, which are among the nodes already, and those on names, which are to be put there
abbrev pub Queue : Type 0
Queue = List Queued

-- the messages on names before the next node
abbrev pub before_next : Queue → List Node
before_next [] = []
before_next (Present ∷ queue) = []
before_next (New message ∷ queue) = message ∷ before_next queue

-- what is due after the next node
abbrev pub after_next : Queue → Queue
after_next [] = []
after_next (Present ∷ queue) = queue
after_next (New message ∷ queue) = after_next queue

-- ---- the kinds of elements

abbrev pub is_section : Tag → Bool
is_section Section = true
is_section _ = false

-- an element is part of a text
abbrev pub is_inline : List Attr → Bool
is_inline attrs = is_some (value_of Inline attrs)

-- In an element of the first kind, the messages that follow the text of one of the second come elsewhere than after the latter: after the outermost
-- line block, the quote or the figure; or first in the definition or the field body that follows.
abbrev pub follows_elsewhere : Tag → Tag → Bool
follows_elsewhere LineBlock Line = true
follows_elsewhere LineBlock LineBlock = true
follows_elsewhere BlockQuote Attribution = true
follows_elsewhere Figure Caption = true
follows_elsewhere DefinitionListItem Term = true
follows_elsewhere DefinitionListItem Classifier = true
follows_elsewhere Field FieldName = true
follows_elsewhere _ _ = false

-- such a definition or field body
abbrev pub takes_in : Tag → Bool
takes_in Definition = true
takes_in FieldBody = true
takes_in _ = false

-- the message on the name of an image in such an element comes before the element
abbrev pub is_passed_over : Tag → Bool
is_passed_over Reference = true
is_passed_over SubstitutionDefinition = true
is_passed_over _ = false

-- ---- the place of each message

-- how many nodes belong to an element's text, by its attributes: the text's own messages, which follow it; in a section the nodes between title
-- and content
abbrev pub counted : List Attr → ℕ
counted attrs = unwrap_or (as_number (value_of TextMessages attrs)) 0

-- The queue with which its nodes begin: in a section the title and the counted nodes come before the message on its name; a definition or a field body
-- takes in the queue that went out of the nodes before it.
abbrev pub first_queue : Tag → List Attr → List Node → Queue → Queue
first_queue t a own out = if takes_in t then out else if is_section t then Present ∷ replicate (counted a) Present ++ map New own else []

-- The nodes of an element, with the messages among them and in them; the messages that come before the element; and the queue of its text, with
-- those that went out of its nodes.
pub record Filled : Type 0 where
  pub nodes : List Node
  pub before : List Node
  pub queue : Queue

-- before the first node of an element: the queue of its text begins with the text's own messages; the nodes that a section counts are in it
abbrev pub beginning : Tag → List Attr → Filled
beginning t a = record { nodes = []; before = []; queue = if is_section t then [] else replicate (counted a) Present }

-- with the messages that are due before the next node
abbrev pub with_due : Queue → Queue → Filled → Filled
with_due first due f = record f { nodes = (f.nodes ++ before_next due) ++ before_next first }

-- with the message on the element's own name: that of a section is in it, that of an inline element follows the text, any other comes before it
abbrev pub with_own : Tag → List Attr → List Node → Filled → Filled
with_own t a own f = if is_section t then f else if is_inline a then record f { queue = f.queue ++ map New own } else record f { before = f.before ++ own }

-- whether the queue of an element's text goes out of the element around it
abbrev pub goes_out : Tag → Tag → List Attr → Bool
goes_out p t a = is_inline a || follows_elsewhere p t

-- without the queue that the next node takes in
abbrev pub taken : Tag → Filled → Filled
taken t f = record f { queue = if takes_in t then [] else f.queue }

-- with one more node of an element of the first kind: an element, with what is made of its nodes
abbrev pub with_filled_element : Tag → Tag → List Attr → ℕ → Filled → Filled → Filled
with_filled_element p t a l inside f = record {
  nodes = (f.nodes ++ (if is_passed_over p then [] else inside.before)) ++ Element t a (forest_of inside.nodes) l ∷ [];
  before = f.before ++ (if is_passed_over p then inside.before else []);
  queue = f.queue ++ (if goes_out p t a then inside.queue else []);
}

-- given the messages on the name of an element with some attributes
module _ (own : List Attr → List Node) where
  -- more nodes of an element of a kind, gone through with the queue that they began with and that of the texts before them
  abbrev pub filled : Tag → Queue → Queue → Filled → Forest → Filled
  filled p first due f bare = with_due first due f
  filled p first due f (words t r) = filled p first due (record f { nodes = f.nodes ++ Text t ∷ [] }) r
  filled p first due f (element t a c l r) =
      let inside = with_own t a (own a) (filled t (first_queue t a (own a) f.queue) [] (beginning t a) c) in
      filled p (after_next first) (after_next due ++ (if goes_out p t a then [] else inside.queue)) (with_filled_element p t a l inside (taken t (with_due first due f))) r

-- ---- the messages, by the numbers of their elements

-- the message on the name of the element with a number, if there is one
abbrev pub message_on : List (Option Node) → ℕ → Option Node
message_on messages number = slice_index_or messages number None

-- the message on the name of an element with some attributes, if there is one
abbrev pub own_message : (ℕ → Option Node) → List Attr → List Node
own_message messages attrs = option_to_list (option_and_then messages (as_number (value_of Serial attrs)))

-- the document with these messages
abbrev pub with_name_messages : (ℕ → Option Node) → Node → Node
with_name_messages messages (Text t) = Text t
with_name_messages messages (Element t a c l) = Element t a (forest_of (filled (own_message messages) t [] [] (beginning t a) c).nodes) l
