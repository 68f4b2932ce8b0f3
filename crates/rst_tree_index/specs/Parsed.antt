-- What is true of each parsed document (Document Tree; Markup Specification, 'Substitution Definitions').
use Rattle.std.specs.Prelude.{◌≡◌, ℕ, ◌+◌, ◌≤◌, max, if◌then◌else◌}
use Rattle.rst_tree.specs.declared.node.Node.{Node}
use Rattle.rst_tree.specs.declared.tag.Tag.TheVariants.{SubstitutionDefinition}
use Rattle.rst_tree_laws.specs.Texts.{NodeHas, Spells, is_text_character}
use Rattle.rst_tree.specs.Forest.{Forest, bare, element, words}
use Rattle.rst_tree.specs.Nodes.{IsDocument, children_in, node_height}
use Rattle.rst_tree.specs.Tree.{most_levels}
use Rattle.rst_tree_index.specs.Kinds.{is_substitution_reference}

-- how deep the nodes nest where each substitution reference counts as at least so many levels
abbrev pub levels_by : ℕ → Forest → ℕ
levels_by h bare = 0
levels_by h (element t a c l r) = max (levels_by h c + 1) (max (if is_substitution_reference t then h else 0) (levels_by h r))
levels_by h (words t r) = max 1 (levels_by h r)

-- Each replacement text has at most so many levels where each substitution reference in it counts as that many. So references are among its nodes
-- alone, not in them, and it has no more levels once they are replaced by flat texts.
abbrev pub AreFlat : ℕ → Forest → Type 0
AreFlat h bare = Unit {0}
AreFlat h (element t a c l r) = (t ≡ SubstitutionDefinition → levels_by h c ≤ h) × AreFlat h c × AreFlat h r
AreFlat h (words t r) = AreFlat h r

-- It is a document, with at least 205 levels fewer than a tree may have. Its replacement texts have at most two levels, where each substitution
-- reference counts as two. Its texts, and the values that become texts, consist of text characters.
pub record IsParsed (document : Node) : Type 0 where
  pub kind : IsDocument document
  pub levels : node_height document + 205 ≤ most_levels
  pub flat : AreFlat 2 (children_in document)
  pub texts : NodeHas (Spells is_text_character) document
