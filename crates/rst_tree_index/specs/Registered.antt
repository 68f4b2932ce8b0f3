-- The elements that registration needs: those that get an id, and the substitution definitions (Document Tree, attributes
-- `ids` and `names`).
use Rattle.std.specs.Prelude.{◌||◌, Bool, true, false, List}
use Rattle.std.specs.List.{list_any}
use Rattle.rst_tree.specs.declared.attrs.Attr.{Attr}
use Rattle.rst_tree.specs.declared.key.Key.{Key}
use Rattle.rst_tree.specs.declared.key.Key.TheVariants.{OwnName, Message}
use Rattle.rst_tree.specs.declared.tag.Tag.{Tag}
use Rattle.rst_tree.specs.declared.tag.Tag.TheVariants.{Section, Target, Footnote, Citation, FootnoteReference, CitationReference, Problematic, SubstitutionDefinition}
use Rattle.rst_tree.specs.Walk.{Item, item}
use Rattle.rst_tree_index.specs.declared.marked.Element.{Element}

-- the kinds of elements that always get an id, and substitution definitions
abbrev pub is_registered_kind : Tag → Bool
is_registered_kind Section = true
is_registered_kind Target = true
is_registered_kind Footnote = true
is_registered_kind Citation = true
is_registered_kind FootnoteReference = true
is_registered_kind CitationReference = true
is_registered_kind Problematic = true
is_registered_kind SubstitutionDefinition = true
is_registered_kind _ = false

-- the attribute of an element that was written with a name, and that of a message to which a problematic belongs
abbrev pub is_registered_key : Key → Bool
is_registered_key OwnName = true
is_registered_key Message = true
is_registered_key _ = false

-- there is such an attribute
abbrev pub has_registered_key : List Attr → Bool
has_registered_key attrs = list_any (λ a. is_registered_key a.key) attrs

-- an element of these kinds, or with such an attribute
abbrev pub is_registered : Item → Bool
is_registered x = is_registered_kind x.tag || has_registered_key x.attrs

-- an element, as contracts see it
abbrev pub item_of : Element → Item
item_of e = item e.tag e.attrs.now e.line
