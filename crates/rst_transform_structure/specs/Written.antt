-- What is known, and places of directives, written out, for worked examples. No rule of markup.
use Rattle.std.specs.Prelude.{ℕ, List, [], ◌∷◌, codes, Option, Some, None}
use Prim.Native.String.{String}
use Rattle.rst_tree.specs.declared.key.Key.TheVariants.{Classes}
use Rattle.rst_tree.specs.declared.node.Node.{Node}
use Rattle.rst_tree.specs.declared.tag.Tag.TheVariants.{Class}
use Rattle.rst_transform_names.specs.Trees.{element, lists, text}
use Rattle.rst_transform_names.specs.declared.names.Holder.{Holder}
use Rattle.rst_transform_names.specs.declared.names.Holder.TheVariants.{Element}
use Rattle.rst_transform_names.specs.declared.names.NameEntry.{NameEntry}
use Rattle.rst_transform_names.specs.declared.names.Strength.TheVariants.{Explicit}
use Rattle.rst_transform_work.specs.Known.{Known}
use Rattle.rst_transform_work.specs.declared.report.Report.{Report}

-- what is known of a name that was given explicitly
abbrev pub entry_for : Holder → Option NameEntry
entry_for holder = Some (record { holder = holder; strength = Explicit; id = codes "a"; uri = None })

-- the place of a directive with these words
abbrev pub class_place : List String → Node
class_place words = element Class (lists Classes words ∷ []) (text ".. class:: a" ∷ [])

-- these messages, the first number, and that the element of number 0 holds each name
abbrev pub known_from : ℕ → List Report → Known
known_from first reports = record { ids = []; names = λ name. entry_for (Element 0); reports = reports; first_number = first; serials = 0 }
