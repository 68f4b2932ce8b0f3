-- The links of a document: the elements that references join, in document order, and what becomes of each (Markup Specification, 'Hyperlink
-- References').
use Rattle.std.specs.Prelude.{List}
use Rattle.rst_tree.specs.declared.node.Node.{Node}
use Rattle.rst_transform_references.specs.declared.links.Change.{Change}

-- an element that failed, or is inside one, is an empty text
pub record Links : Type 0 where
  pub linked : List Node
  pub changes : List Change
