-- Documents that are written out, what is printed of them, and what is known beside them, for worked examples. No rule of markup.
use Prim.Native.String.{String}
use Rattle.std.specs.Prelude.{ℕ, ◌+◌, List, [], ◌∷◌, codes, length, Option, Some, None}
use Rattle.rst_tree.specs.declared.node.Node.{Node}
use Rattle.rst_tree.specs.Nodes.{forest_of}
use Rattle.rst_transform_names.specs.declared.names.Holder.TheVariants.{Element as By}
use Rattle.rst_transform_names.specs.declared.names.NameEntry.{NameEntry}
use Rattle.rst_transform_names.specs.declared.names.Strength.TheVariants.{Explicit}
use Rattle.rst_transform_names.specs.Names.{with_entry}
use Rattle.rst_transform_names.specs.Trees.{IsPrintedIn}
use Rattle.rst_transform_work.specs.declared.document.Document.{Document}
use Rattle.rst_transform_work.specs.Known.{Known}
use Rattle.rst_transform_work.specs.States.{document_node}

-- a document without attributes that contains nodes
abbrev pub plain_document : List Node → Document
plain_document nodes = record { attrs = []; children = forest_of nodes; line = 1 }

-- a document is printed in these lines, without a source
abbrev pub Shows : Document → List String → Type 0
Shows document lines = IsPrintedIn (document_node document) lines

-- names, the first of which the element with a number has, each other that with the next one; each gave the id of the same text
abbrev pub names_from : ℕ → List String → List ℕ → Option NameEntry
names_from serial [] name = None
names_from serial (name_text ∷ more) name =
    with_entry (codes name_text) (Some (record { holder = By serial; strength = Explicit; id = codes name_text; uri = None })) (names_from (serial + 1) more) name

-- only these names are known
abbrev pub knowing : List String → Known
knowing names = record { ids = []; names = names_from 0 names; reports = []; first_number = 0; serials = length names }
