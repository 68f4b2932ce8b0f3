-- Elements replaced by other nodes, each by one, or changed, in preorder, with a state. No rule of markup: transforms are defined by it.
use Rattle.std.specs.Prelude.{◌≡◌, Bool, true, false}
use Rattle.rst_tree.specs.Nodes.{join_node}
use Rattle.rst_tree.specs.declared.node.Node.{Node}
use Rattle.rst_tree.specs.declared.node.Node.TheVariants.{Element, Text}
use Rattle.rst_tree.specs.declared.rewriting.Rewrite.{Rewrite}
use Rattle.rst_tree.specs.declared.rewriting.Rewrite.TheVariants.{Keep, Replace}
use Rattle.rst_tree.specs.Forest.{Forest, bare, element, words}

-- an element that stays as it is
abbrev pub kept : Node → Rewrite
kept (Element t a c l) = Keep t a l
kept (Text t) = Replace (Text t)

-- The old element became the new node: another node takes its place; or it stays, with the name, the attributes and the line that
-- are given, and with the nodes that were in it.
abbrev pub Turned : Rewrite → Node → Node → Bool → Type 0
Turned (Replace n) old new stays = (new ≡ n) × (stays ≡ false)
Turned (Keep t a l) (Element t' a' c l') new stays = (new ≡ Element t a c l) × (stays ≡ true)
Turned (Keep t a l) (Text x) new stays = ⊥

-- What is made of an element and of the nodes after it, and the state then. Another node takes its place; or it stays, what
-- is in it is gone through, and then comes what is after it.
abbrev pub go_on : {S : Type 0} → Rewrite → S → (S → Forest × S) → (S → Forest × S) → Forest × S
go_on (Replace n) s inside following = (join_node n (following s).0, (following s).1)
go_on (Keep t a l) s inside following = (element t a (inside s).0 l (following (inside s).1).0, (following (inside s).1).1)

module _ {S : Type 0} (entered : S → Node → S) (becomes : S → Node → Rewrite) where
  -- the nodes rewritten, and the state then
  abbrev pub rewritten : S → Forest → Forest × S
  rewritten s bare = (bare, s)
  rewritten s (element t a c l r) = go_on (becomes s (Element t a c l)) (entered s (Element t a c l)) (λ u. rewritten u c) (λ u. rewritten u r)
  rewritten s (words t r) = (words t (rewritten s r).0, (rewritten s r).1)
