-- Elements that are taken in in preorder, each with what is in it. No rule of markup: transforms read by it.
use Rattle.std.specs.Prelude.{◌≡◌}
use Rattle.rst_tree.specs.declared.node.Node.{Node}
use Rattle.rst_tree.specs.declared.node.Node.TheVariants.{Element}
use Rattle.rst_tree.specs.Forest.{Forest, bare, element, words}

-- given what taking in an element at a level makes of a state, and the level of the elements in it
module _ {S L : Type 0} (takes : S → L → Node → S → L → Type 0) where
  -- the elements among nodes at a level, and those in them, are taken in
  abbrev pub AreRead : L → Forest → S → S → Type 0
  AreRead level bare old new = new ≡ old
  AreRead level (words t r) old new = AreRead level r old new
  AreRead level (element t a c l r) old new =
      (taken : S) × (inner : L) × (inside : S) × takes old level (Element t a c l) taken inner × AreRead inner c taken inside × AreRead level r inside new
