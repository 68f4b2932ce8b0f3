-- What is true of each document that is printed (Document Tree).
use Rattle.std.specs.Prelude.{◌≡◌, true, map, encode_utf8_all}
use Rattle.std.specs.Str.{chars}
use Rattle.rst_text.specs.Lines.{pieces}
use Rattle.rst_tree.specs.declared.node.Node.{Node}
use Rattle.rst_tree_laws.specs.Texts.{NodeHas}
use Rattle.rst_tree.specs.Print.{text_lines}
use Rattle.rst_tree.specs.Tree.{is_tree}

-- The document is a tree, and each text in it is printed with one line for each of its lines.
pub record IsTree (document : Node) : Type 0 where
  pub tree : is_tree document ≡ true
  pub lines : NodeHas (λ t. text_lines t ≡ map encode_utf8_all (pieces (chars t))) document
