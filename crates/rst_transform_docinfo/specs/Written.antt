-- Fields that are written out, for worked examples. No rule of markup.
use Prim.Native.String.{String}
use Rattle.std.specs.Prelude.{List, [], ◌∷◌}
use Rattle.rst_tree.specs.declared.node.Node.{Node}
use Rattle.rst_tree.specs.declared.tag.Tag.TheVariants.{Field, FieldBody, FieldName}
use Rattle.rst_transform_names.specs.Trees.{element, text}

-- a field of a name, and the nodes in its body
abbrev pub field : String → List Node → Node
field name nodes = element Field [] (element FieldName [] (text name ∷ []) ∷ element FieldBody [] nodes ∷ [])
