-- The attributes of an element, in the order of their names (Document Tree, 'Attribute Reference').
use Rattle.std.specs.Prelude.{ℕ, ◌+◌, Bool, true, false, ◌&&◌, if◌then◌else◌, nat_lt, List, [], ◌∷◌, Option, Some, None}
use Rattle.rst_tree.specs.declared.attrs.Attr.{Attr}
use Rattle.rst_tree.specs.declared.attrs.Value.{Value}
use Rattle.rst_tree.specs.declared.attrs.Value.TheVariants.{Text, Number, List as Listed}
use Rattle.rst_tree.specs.declared.key.Key.{Key}
use Rattle.rst_tree.specs.KeyNames.{key_code, is_same}

-- an attribute: its name, and its value
abbrev pub attr : Key → Value → Attr
attr k v = record { key = k; value = v }

-- the names are in order, and no two are the same
abbrev pub are_keys_in_order : List Attr → Bool
are_keys_in_order [] = true
are_keys_in_order (a ∷ []) = true
are_keys_in_order (a ∷ b ∷ more) = nat_lt (key_code a.key) (key_code b.key) && are_keys_in_order (b ∷ more)

-- the value of the attribute of a name
abbrev pub value_of : Key → List Attr → Option Value
value_of k [] = None
value_of k (a ∷ more) = if is_same a.key k then Some a.value else value_of k more

-- the text that is the value, where it is one
abbrev pub as_text : Option Value → Option (List ℕ)
as_text None = None
as_text (Some (Text text)) = Some text
as_text (Some (Number number)) = None
as_text (Some (Listed texts)) = None

-- the number that is the value, where it is one
abbrev pub as_number : Option Value → Option ℕ
as_number None = None
as_number (Some (Text text)) = None
as_number (Some (Number number)) = Some number
as_number (Some (Listed texts)) = None

-- how many attributes come before the first whose name isn't before k
abbrev pub places_below : Key → List Attr → ℕ
places_below k [] = 0
places_below k (a ∷ more) = if nat_lt (key_code a.key) (key_code k) then places_below k more + 1 else 0

-- the first of the attributes has the name
abbrev pub is_at : Key → List Attr → Bool
is_at k [] = false
is_at k (a ∷ more) = is_same a.key k

-- the attributes with k set to v, in place of its old value or between the names before and after it
abbrev pub with_attr : Key → Value → List Attr → List Attr
with_attr k v [] = attr k v ∷ []
with_attr k v (a ∷ more) =
    if nat_lt (key_code a.key) (key_code k) then a ∷ with_attr k v more
    else (if is_same a.key k then attr k v ∷ more else attr k v ∷ a ∷ more)

-- the first attributes, whose names come before k
abbrev pub attrs_before : Key → List Attr → List Attr
attrs_before k [] = []
attrs_before k (a ∷ more) = if nat_lt (key_code a.key) (key_code k) then a ∷ attrs_before k more else []

-- the attributes after those, without the first of them if it has the name k
abbrev pub following : Key → List Attr → List Attr
following k [] = []
following k (a ∷ more) = if nat_lt (key_code a.key) (key_code k) then following k more else (if is_same a.key k then more else a ∷ more)

-- the attributes without the first of a name
abbrev pub without_key : Key → List Attr → List Attr
without_key k [] = []
without_key k (a ∷ more) = if is_same a.key k then more else a ∷ without_key k more

-- how many attributes come before the first of a name
abbrev pub place_named : Key → List Attr → ℕ
place_named k [] = 0
place_named k (a ∷ more) = if is_same a.key k then 0 else place_named k more + 1
