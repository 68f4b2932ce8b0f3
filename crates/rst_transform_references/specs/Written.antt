-- Documents and footnotes that are written out, and what transforms of links make of them, for worked examples. No rule of markup.
use Prim.Native.String.{String}
use Rattle.std.specs.Prelude.{ℕ, List, [], ◌∷◌, codes, length, Option, option_map}
use Rattle.rst_transform_work.specs.declared.document.Document.{Document}
use Rattle.rst_transform_work.specs.Known.{Known}
use Rattle.rst_transform_work.specs.Written.{knowing, plain_document}
use Rattle.rst_transform_references.specs.Aliases.{names_before}
use Rattle.rst_transform_references.specs.Changes.{changed_document}
use Rattle.rst_transform_references.specs.Links.{links_of}
use Rattle.rst_transform_references.specs.Table.{Links}
use Rattle.rst_transform_names.specs.declared.names.Holder.{Holder}
use Rattle.rst_transform_names.specs.declared.names.NameEntry.{NameEntry}
use Rattle.rst_tree.specs.declared.attrs.Attr.{Attr}
use Rattle.rst_tree.specs.declared.key.Key.TheVariants.{Inline, Mark, OwnName, Refname, Serial}
use Rattle.rst_tree.specs.declared.node.Node.{Node}
use Rattle.rst_tree.specs.declared.tag.Tag.TheVariants.{Footnote, Label, Target}
use Rattle.rst_transform_names.specs.Trees.{counts, element, says, text}

-- a footnote that was written with a label
abbrev pub footnote : String → List Attr → Node
footnote label attrs = element Footnote (says Mark label ∷ attrs) (element Label [] (text label ∷ []) ∷ [])

-- a target with a number that an alias leaves: its name is `a`, and it refers to `b`
abbrev pub alias : ℕ → Node
alias serial = element Target (counts Inline 1 ∷ says OwnName "a" ∷ says Refname "b" ∷ counts Serial serial ∷ []) []

-- who holds the name `a` after aliases have got their names, by the places of elements by their numbers, by the elements and by the names that were known
abbrev pub holder_after : List (Option ℕ) → List Node → List String → Option Holder
holder_after places nodes names = option_map (λ (entry : NameEntry). entry.holder) (names_before (length nodes) places (links_of (plain_document nodes)) (knowing names).names (codes "a"))

-- what a transform of links makes of a document and of what is known
abbrev pub transformed_by : (Links → Known → Links × Known) → List String → Document → Document × Known
transformed_by transform names document =
    let done : Links × Known = transform (links_of document) (knowing names) in (changed_document done.0.changes document, done.1)
