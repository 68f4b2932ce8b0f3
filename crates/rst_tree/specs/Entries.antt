-- The attribute that a list holds, however it is stored, and what is seen of it there. No rule of markup: the standard speaks of
-- attributes as they read.
use Rattle.std.specs.Prelude.{◌∷◌, []}
use Rattle.rst_tree.specs.declared.attrs.Attr.{Attr}
use Rattle.rst_tree.specs.declared.attrs.Value.{Value}
use Rattle.rst_tree.specs.declared.attrs.Value.TheVariants.{Text, Number, List as Listed}
use Rattle.rst_tree.specs.declared.entry.EntryStorage.{EntryStorage}
use Rattle.rst_tree.specs.declared.entry.EntryStorage.TheVariants.{Text as StoredText, Number as StoredNumber, Lone as StoredLone, List as StoredList}
use Rattle.rst_tree.specs.declared.entry.ValueRef.{ValueRef}
use Rattle.rst_tree.specs.declared.entry.ValueRef.TheVariants.{Text as TextRef, Number as NumberRef, List as ListRef}
use Rattle.rst_tree.specs.Attributes.{attr}

-- the attribute; a list of one text lies in the value itself
abbrev pub stored_attr : EntryStorage → Attr
stored_attr (StoredText key text) = attr key (Text text)
stored_attr (StoredNumber key number) = attr key (Number number)
stored_attr (StoredLone key alloc text) = attr key (Listed (text ∷ []))
stored_attr (StoredList key list) = attr key (Listed list.items)

-- the value of an attribute, as contracts see it
abbrev pub as_value : ValueRef → Value
as_value (TextRef text) = Text text.now
as_value (NumberRef number) = Number number
as_value (ListRef list) = Listed list.now
