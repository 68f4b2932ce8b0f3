-- What is printed of a finished document has no more levels than the document, and texts with the properties of its texts.
use Rattle.std.proofs.Common.{ℕ, ◌-◌, Bool, List, arith}
use Rattle.std.proofs.lemmas.Bool.{cond_both}
use Rattle.rst_settings.specs.declared.Threshold.{Threshold}
use Rattle.rst_tree.specs.declared.node.Node.TheVariants.{Element}
use Rattle.rst_tree.specs.Forest.{Forest, bare, element, words}
use Rattle.rst_transform_messages.specs.Filtered.{filtered, is_unexplained}
use Rattle.rst_transform_messages.specs.Reported.{is_below}
use Rattle.rst_tree_laws.proofs.Have.{all_has}
use Rattle.rst_transform_laws.proofs.Held.{ForestHeld}
use Rattle.rst_tree_laws.proofs.Properties.{Suited}

module _ (P : ℕ → Bool) (T : List ℕ → Type 0) (s : Suited P T) where
  pub filtered_held : (m : ℕ) (report : Threshold) (reported : ℕ → Bool) (f : Forest) → ForestHeld T m f → ForestHeld T m (filtered report reported f)
  filtered_held m report reported bare h = h
  filtered_held m report reported (words t r) h = let j = filtered_held m report reported r (omega (arith, h.0), h.1.1) in (omega (arith, h.0, j.0), (h.1.0, j.1))
  filtered_held m report reported (element t a c l r) h =
      let i = filtered_held (m - 1) report reported c (omega (arith, h.0), h.1.1) in
      let j = filtered_held m report reported r (omega (arith, h.0), h.1.2) in
      cond_both (is_below report t a) _ _ (ForestHeld T m) (λ _. j)
      (λ _. cond_both (is_unexplained reported (Element t a c l)) _ _ (ForestHeld T m) (λ _. (omega (arith, h.0, j.0), (all_has T P s c h.1.1, j.1)))
      (λ _. (omega (arith, h.0, i.0, j.0), (h.1.0, i.1, j.1))))
