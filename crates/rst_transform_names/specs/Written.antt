-- What registration writes at each element (Document Tree, attributes `ids`, `names`, `dupnames`, `refid` and `backrefs`).
use Rattle.std.specs.Prelude.{ℕ, Bool, List, [], ◌∷◌, ◌++◌, if◌then◌else◌, Option, Some, None, drop, codes, decimal, slice_get, option_and_then, option_map, unwrap_or}
use Rattle.rst_tree.specs.declared.attrs.Attr.{Attr}
use Rattle.rst_tree.specs.declared.attrs.Value.TheVariants.{Number, Text as Words, List as Listed}
use Rattle.rst_tree.specs.declared.key.Key.TheVariants.{Backrefs, Ids, Message, Names, Dupnames, OwnName, Refid, Serial}
use Rattle.rst_tree.specs.declared.tag.Tag.{Tag}
use Rattle.rst_tree.specs.declared.tag.Tag.TheVariants.{Problematic, SystemMessage}
use Rattle.rst_tree.specs.Attributes.{as_number, as_text, value_of, with_attr}
use Rattle.rst_tree.specs.Walk.{Item, item}
use Rattle.rst_transform_names.specs.declared.message_ids.MessageIds.{MessageIds}
use Rattle.rst_transform_names.specs.declared.registry.Standing.{Standing}

-- the attributes with an element's id, if it has one
abbrev pub with_id : Option (List ℕ) → List Attr → List Attr
with_id None attrs = attrs
with_id (Some id) attrs = with_attr Ids (Listed (id ∷ [])) attrs

-- with its name, as a duplicate one where it lost it; the empty name is none
abbrev pub with_name : Bool → Option (List ℕ) → List Attr → List Attr
with_name lost None attrs = attrs
with_name lost (Some []) attrs = attrs
with_name lost (Some (c ∷ cs)) attrs = with_attr (if lost then Dupnames else Names) (Listed ((c ∷ cs) ∷ [])) attrs

-- the name that an element was written with, unless it got none
abbrev pub name_got : Standing → List Attr → Option (List ℕ)
name_got standing attrs = if standing.unnamed then None else as_text (value_of OwnName attrs)

-- with all that registration gave an element that may have a name: its number, its name and its id
abbrev pub with_standing : Standing → List Attr → List Attr
with_standing standing attrs = with_id standing.id (with_name standing.lost (name_got standing attrs) (with_attr Serial (Number standing.serial) attrs))

-- the ids of problematics and of messages, by their numbers
abbrev pub problematic_id : ℕ → List ℕ
problematic_id number = codes "problematic-" ++ decimal number

abbrev pub message_id : ℕ → List ℕ
message_id number = codes "system-message-" ++ decimal number

-- what is known of the message whose number is in an element's attributes, if there is one
abbrev pub message_ids_of : List MessageIds → List Attr → Option MessageIds
message_ids_of messages attrs = option_and_then (slice_get messages) (as_number (value_of Message attrs))

-- the attributes of a problematic with the id of its message, if that is in the document
abbrev pub with_refid : Option ℕ → List Attr → List Attr
with_refid None attrs = attrs
with_refid (Some number) attrs = with_attr Refid (Words (message_id number)) attrs

-- the attributes of a message with the ids of its problematics, if it has some
abbrev pub with_backrefs : List (List ℕ) → List Attr → List Attr
with_backrefs [] attrs = attrs
with_backrefs (id ∷ more) attrs = with_attr Backrefs (Listed (id ∷ more)) attrs

-- the attributes of a problematic with all that registration gave it: its message, and its id
abbrev pub with_problematic : List MessageIds → ℕ → List Attr → List Attr
with_problematic messages number attrs = with_id (Some (problematic_id number)) (with_refid (option_and_then (λ (m : MessageIds). m.id) (message_ids_of messages attrs)) attrs)

-- those of a message: its problematics, and its id
abbrev pub with_message : List MessageIds → ℕ → List Attr → List Attr
with_message messages number attrs =
    with_id (Some (message_id number)) (with_backrefs (unwrap_or (option_map (λ (m : MessageIds). m.problematics) (message_ids_of messages attrs)) []) attrs)

-- what registration gives the elements from one on: those that may have names their standings; messages and problematics the
-- numbers in their ids, and what is known of each message, by the number that it and its problematics carry
pub record Given : Type 0 where
  pub standings : List Standing
  pub numbers : List ℕ
  pub messages : List MessageIds

abbrev pub given : List Standing → List ℕ → List MessageIds → Given
given standings numbers messages = record { standings = standings; numbers = numbers; messages = messages }

-- what the elements after one of a kind get
abbrev pub left_of_registration : Tag → Given → Given
left_of_registration Problematic g = given g.standings (drop 1 g.numbers) g.messages
left_of_registration SystemMessage g = given g.standings (drop 1 g.numbers) g.messages
left_of_registration _ g = given (drop 1 g.standings) g.numbers g.messages

abbrev pub left_after : Given → Item → Given
left_after g x = left_of_registration x.tag g

-- attributes changed by the first of a list, if it has one
abbrev pub with_first : {A : Type 0} → (A → List Attr → List Attr) → List A → List Attr → List Attr
with_first change [] attrs = attrs
with_first change (first ∷ more) attrs = change first attrs

-- the attributes of an element of a kind with what it gets
abbrev pub attrs_given : Tag → Given → List Attr → List Attr
attrs_given Problematic g attrs = with_first (with_problematic g.messages) g.numbers attrs
attrs_given SystemMessage g attrs = with_first (with_message g.messages) g.numbers attrs
attrs_given _ g attrs = with_first with_standing g.standings attrs

-- the element with what it gets
abbrev pub with_given : Given → Item → Item
with_given g x = item x.tag (attrs_given x.tag g x.attrs) x.line
