-- The registration of all elements, one after the other, in preorder (Document Tree, attributes `ids`, `names`, `dupnames`,
-- `refid` and `backrefs`; reStructuredText Markup Specification, 'Implicit Hyperlink Targets').
use Rattle.std.specs.Prelude.{◌≡◌, ◌==◌, ℕ, false, if◌then◌else◌, List, [], ◌∷◌, ◌++◌, Option, Some, None, option_map, length, filter, replicate}
use Rattle.std.specs.BTreeMap.{get_by_text}
use Rattle.std.specs.Str.{bytes_eq}
use Rattle.rst_tree.specs.declared.key.Key.TheVariants.{Message}
use Rattle.rst_tree.specs.declared.node.Node.{Node}
use Rattle.rst_tree.specs.declared.tag.Tag.{Tag}
use Rattle.rst_tree.specs.declared.tag.Tag.TheVariants.{Problematic, SystemMessage, SubstitutionDefinition, Target}
use Rattle.rst_tree.specs.Attributes.{as_number, value_of}
use Rattle.rst_tree.specs.Paths.{map_at}
use Rattle.rst_tree.specs.TagNames.{hyphenated, tag_name}
use Rattle.rst_tree.specs.Walk.{Item, node_items, walked_node}
use Rattle.rst_tree_index.specs.Marks.{heeded_next, heeded_out}
use Rattle.rst_tree_index.specs.Registered.{is_registered}
use Rattle.rst_transform_names.specs.declared.message_ids.MessageIds.{MessageIds}
use Rattle.rst_transform_names.specs.declared.names.NameEntry.{NameEntry}
use Rattle.rst_transform_names.specs.declared.registration.Registered.{Registered}
use Rattle.rst_transform_names.specs.declared.registry.Registry.{Registry}
use Rattle.rst_transform_names.specs.declared.registry.Standing.{Standing}
use Rattle.rst_transform_names.specs.Ids.{id_for, least_free, id_with_number, AreTaken}
use Rattle.rst_transform_names.specs.DuplicateMessages.{duplicate_definition, duplicate_name}
use Rattle.rst_transform_names.specs.NameMessages.{message_on, with_name_messages}
use Rattle.rst_transform_names.specs.Names.{is_alias, name_to_take, own_name, with_entry, AreRegistered}
use Rattle.rst_transform_names.specs.Registry.{definer, known_by, losing, rule_named, standing}
use Rattle.rst_transform_names.specs.Written.{given, left_after, problematic_id, with_given}

-- What is known after some elements: the ids that are taken, what is known of each name, and the number of the last substitution definition that
-- has it; what each element got that may have a name; the numbers in the ids of messages and problematics, and what is known of each message;
-- and the message on the name of each that may have one.
pub record Register : Type 0 where
  pub ids : List (List ℕ)
  pub names : List ℕ → Option NameEntry
  pub definitions : List ℕ → Option ℕ
  pub standings : List Standing
  pub numbers : List ℕ
  pub messages : List MessageIds
  pub name_messages : List (Option Node)

-- before the first element; `messages` numbers were given to messages
abbrev pub nothing_known : ℕ → Register
nothing_known messages = record {
  ids = [];
  names = λ name. None;
  definitions = λ name. None;
  standings = [];
  numbers = [];
  messages = replicate messages (record { id = None; problematics = [] });
  name_messages = [];
}

-- what is known of a message once one of its problematics has come, or the message itself, with the number in its id
abbrev pub with_member : Tag → ℕ → MessageIds → MessageIds
with_member Problematic number l = record { id = l.id; problematics = l.problematics ++ problematic_id number ∷ [] }
with_member _ number l = record { id = Some number; problematics = l.problematics }

-- what is known of messages, where that changes for the one that an element names
abbrev pub with_message_changed : Option ℕ → (MessageIds → MessageIds) → List MessageIds → List MessageIds
with_message_changed None change messages = messages
with_message_changed (Some message) change messages = map_at change message messages

-- a message or a problematic gets an id with a number
abbrev pub with_message_id : Item → Register → Register
with_message_id new r =
    let base = hyphenated (tag_name new.tag) in
    let number = least_free r.ids base in
    record r {
      ids = id_with_number base number ∷ r.ids;
      numbers = r.numbers ++ number ∷ [];
      messages = with_message_changed (as_number (value_of Message new.attrs)) (with_member new.tag number) r.messages;
    }

-- of substitution definitions with one name the last has it
abbrev pub with_definition : Item → Register → Register
with_definition new r =
    let number = length r.standings in
    let earlier = r.definitions (own_name new) in
    record r {
      definitions = λ name. if bytes_eq name (own_name new) then Some number else r.definitions name;
      standings = losing (definer earlier) r.standings ++ standing number None false false ∷ [];
      name_messages = r.name_messages ++ option_map (λ (n : ℕ). duplicate_definition new) earlier ∷ [];
    }

-- any other element gets its id, and its name by the rule for it, if it is to get one
abbrev pub with_named : Item → Register → Register
with_named new r =
    let name = name_to_take r.names new in
    let id = id_for r.ids new.tag name in
    let number = length r.standings in
    let entry = r.names (own_name new) in
    let rule = rule_named name entry new in
    record r {
      ids = id ∷ r.ids;
      names = with_entry (own_name new) (known_by rule.now number new id entry) r.names;
      standings = losing rule.loser r.standings ++ standing number (Some id) (length name == 0) rule.new_loses ∷ [];
      name_messages = r.name_messages ++ option_map (λ message. duplicate_name message new id) rule.message ∷ [];
    }

-- a target that an alias leaves has its name, whoever else has it, and no id
abbrev pub with_alias : Register → Register
with_alias r = record r { standings = r.standings ++ standing (length r.standings) None false false ∷ []; name_messages = r.name_messages ++ None ∷ [] }

abbrev pub with_target : Item → Register → Register
with_target new r = if is_alias new then with_alias r else with_named new r

-- an element, by its kind
abbrev pub with_kind : Tag → Item → Register → Register
with_kind Problematic = with_message_id
with_kind SystemMessage = with_message_id
with_kind SubstitutionDefinition = with_definition
with_kind Target = with_target
with_kind _ = with_named

abbrev pub with_element : Item → Register → Register
with_element new = with_kind new.tag new

-- one element after the other
abbrev pub all_registered : List Item → Register → Register
all_registered [] r = r
all_registered (new ∷ more) r = all_registered more (with_element new r)

-- the document with what its elements got
abbrev pub written : Register → Node → Node
written r document =
    walked_node (heeded_next is_registered left_after) (heeded_out is_registered with_given) (given r.standings r.numbers r.messages) document

-- what registration leaves: the document, the ids that are taken, what is known of each name, and how many elements have a number
pub record Registration : Type 0 where
  pub root : Node
  pub ids : List (List ℕ)
  pub names : List ℕ → Option NameEntry
  pub serials : ℕ

-- what is known of a document whose messages were given `messages` numbers
abbrev pub registered : ℕ → Node → Register
registered messages document = all_registered (filter is_registered (node_items document)) (nothing_known messages)

-- the same document, registered, with the messages on equal names in it
abbrev pub registration : ℕ → Node → Registration
registration messages document =
    let r = registered messages document in
    record { root = with_name_messages (message_on r.name_messages) (written r document); ids = r.ids; names = r.names; serials = length r.standings }

-- ---- the same in the program

-- a registry holds what is known
pub record Holds (registry : Registry) (r : Register) : Type 0 where
  pub ids : AreTaken registry.ids r.ids
  pub names : AreRegistered registry.names r.names
  pub definitions : (name : List ℕ) → get_by_text registry.definitions name ≡ r.definitions name
  pub standings : registry.standings.items ≡ r.standings
  pub numbers : registry.known_messages.numbers.items ≡ r.numbers
  pub messages : registry.known_messages.messages.items ≡ r.messages
  pub name_messages : registry.name_messages.items ≡ r.name_messages

-- what a registry holds becomes what a function makes of it
abbrev pub Makes : (Register → Register) → Registry → Registry → Type 0
Makes made before after = (r : Register) → Holds before r → Holds after (made r)

-- a registered document is what registration leaves
pub record IsRegistered (left : Registration) (done : Registered) : Type 0 where
  pub root : done.root ≡ left.root
  pub ids : AreTaken done.ids left.ids
  pub names : AreRegistered done.names left.names
  pub serials : done.serials ≡ left.serials
