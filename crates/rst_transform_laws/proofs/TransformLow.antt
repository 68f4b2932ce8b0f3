-- Places in lists, and the levels of documents whose substitution references count as more.
use Rattle.std.proofs.Common.{◌≡◌, ℕ, zero, suc, ◌+◌, ◌-◌, ◌≤◌, max, List, [], ◌∷◌, arith, refl}
use Rattle.std.specs.Prelude.{slice_get}
use Rattle.std.specs.List.{AllByRecursion}
use Rattle.std.specs.Option.{option_to_list}
use Rattle.std.proofs.lemmas.Bool.{cond_both}
use Rattle.rst_tree.specs.declared.node.Node.{Node}
use Rattle.rst_tree.specs.declared.node.Node.TheVariants.{Element, Text}
use Rattle.rst_tree.specs.Forest.{Forest, bare, element, words, height}
use Rattle.rst_tree.specs.Nodes.{node_height}
use Rattle.rst_tree_index.specs.Kinds.{is_substitution_reference}
use Rattle.rst_transform_work.specs.States.{document_in}
use Rattle.rst_tree_index.specs.Parsed.{levels_by}

pub all_at : {A : Type 0} (Q : A → Type 0) (ns : List A) (i : ℕ) → AllByRecursion Q ns → AllByRecursion Q (option_to_list (slice_get ns i))
all_at Q [] i h = tt
all_at Q (n ∷ ns) zero h = (h.0, tt)
all_at Q (n ∷ ns) (suc i) h = all_at Q ns i h.1

-- a substitution reference has at least one level of its own
pub levels_low : (h : ℕ) (f : Forest) → (height f ≤ levels_by h f) × (levels_by h f ≤ height f + (h - 1))
levels_low h bare = (omega arith, omega arith)
levels_low h (words t r) = let j = levels_low h r in (omega arith, omega arith)
levels_low h (element t a c l r) =
    let i = levels_low h c in
    let j = levels_low h r in
    cond_both (is_substitution_reference t) _ _ (λ m. let all : ℕ = max (levels_by h c + 1) (max m (levels_by h r)) in (height (element t a c l r) ≤ all) × (all ≤ height (element t a c l r) + (h - 1)))
    (λ _. (omega arith, omega arith)) (λ _. (omega arith, omega arith))

pub document_low : (n : Node) → height (document_in n).children + 1 ≡ node_height n
document_low (Element t a c l) = refl
document_low (Text t) = refl
