-- Names and who holds them.
use Rattle.std.specs.Prelude.{ℕ, Bool, true, false, ◌&&◌, is_some, List, [], Option, Some, None, unwrap_or, if◌then◌else◌, ◌≡◌, Result, Ok, Err}
use Rattle.std.specs.BTreeMap.{get_by_text}
use Rattle.std.specs.Str.{bytes_eq}
use Rattle.std.specs.declared.alloc.AllocError.{AllocError}
use Rattle.rst_tree.specs.declared.key.Key.TheVariants.{Inline, OwnName, Refname, TextMessages}
use Rattle.rst_tree.specs.declared.tag.Tag.{Tag}
use Rattle.rst_tree.specs.declared.tag.Tag.TheVariants.{Topic}
use Rattle.rst_tree.specs.Attributes.{as_number, as_text, value_of}
use Rattle.rst_tree.specs.Walk.{Item}
use Rattle.rst_transform_names.specs.declared.names.NameEntry.{NameEntry}
use Rattle.rst_transform_names.specs.declared.names.Holder.{Holder}
use Rattle.rst_transform_names.specs.declared.names.Names.{Names}

-- the name that an element was written with; the empty name is none
abbrev pub own_name : Item → List ℕ
own_name x = unwrap_or (as_text (value_of OwnName x.attrs)) []

abbrev pub is_topic : Tag → Bool
is_topic Topic = true
is_topic _ = false

-- an element is a table of contents: of all topics these alone have the number of the messages on their titles, which follow them
abbrev pub is_table_of_contents : Item → Bool
is_table_of_contents x = is_topic x.tag && is_some (as_number (value_of TextMessages x.attrs))

-- an embedded alias left a target: it is in a text, and refers to a name
abbrev pub is_alias : Item → Bool
is_alias target = is_some (value_of Refname target.attrs) && is_some (value_of Inline target.attrs)

-- the name that a new element is to get, by what is known of names: of a table of contents none if something is known of the name already
abbrev pub name_to_take : (List ℕ → Option NameEntry) → Item → List ℕ
name_to_take names x = if is_table_of_contents x && is_some (names (own_name x)) then [] else own_name x

-- what is known of a name
abbrev pub entry_named : Names → List ℕ → Option NameEntry
entry_named names name = get_by_text names.registered name

-- something is known of a name, and of the others what was
abbrev pub Knows : List ℕ → Option NameEntry → Names → Names → Type 0
Knows name entry old new = (other : List ℕ) → entry_named new other ≡ (if bytes_eq other name then entry else entry_named old other)

-- something is known of a name, and of the others what these know
abbrev pub with_entry : List ℕ → Option NameEntry → (List ℕ → Option NameEntry) → List ℕ → Option NameEntry
with_entry name entry names other = if bytes_eq other name then entry else names other

-- what is known of names is this
abbrev pub AreRegistered : Names → (List ℕ → Option NameEntry) → Type 0
AreRegistered names known = (name : List ℕ) → entry_named names name ≡ known name

-- what is known of a name was set, or memory ran out and nothing changed
abbrev pub RemembersName : {A : Type 0} → List ℕ → NameEntry → Names → Names → Result A AllocError → Type 0
RemembersName name entry old new (Ok done) = Knows name (Some entry) old new
RemembersName name entry old new (Err refused) = (other : List ℕ) → entry_named new other ≡ entry_named old other

-- the same with another holder
abbrev pub with_holder : Holder → Option NameEntry → Option NameEntry
with_holder holder None = None
with_holder holder (Some entry) = Some (record entry { holder = holder })
