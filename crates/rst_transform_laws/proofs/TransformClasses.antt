-- A document whose `class` directives have given their words has at most one level more, that of the text in a message, and texts with the properties of
-- its texts.
use Rattle.std.proofs.Common.{◌≡◌, ◌∙◌, ℕ, ◌+◌, ◌-◌, ◌≤◌, Bool, true, false, List, [], ◌∷◌, arith, refl, sym, ap}
use Rattle.std.specs.Prelude.{◌&&◌, ◌==◌, codes, slice_get}
use Rattle.std.specs.List.{AllByRecursion}
use Rattle.std.proofs.lemmas.Bool.{cond_both}
use Rattle.rst_tree.specs.declared.key.Key.TheVariants.{Classes}
use Rattle.rst_tree.specs.declared.node.Node.{Node}
use Rattle.rst_tree.specs.declared.node.Node.TheVariants.{Element, Text}
use Rattle.rst_tree.specs.declared.tag.Tag.{Tag}
use Rattle.rst_tree.specs.declared.tag.Tag.TheVariants.{SubstitutionDefinition}
use Rattle.rst_tree.specs.Forest.{Forest, bare, element, words}
use Rattle.rst_tree.specs.Nodes.{forest_of, join_node, nodes_of}
use Rattle.rst_tree_index.specs.Parsed.{levels_by, AreFlat}
use Rattle.rst_transform_work.specs.declared.document.Document.{Document}
use Rattle.rst_transform_structure.specs.Classes.{class_message, classed, classes_takers, is_class, is_passed_over, put_before, with_classes}
use Rattle.rst_tree_laws.specs.Texts.{TextsHave}
use Rattle.rst_tree_laws.proofs.Lists.{all_append}
use Rattle.rst_tree_laws.proofs.Properties.{Suited, fixed_has}
use Rattle.rst_transform_laws.proofs.Held.{with_listed_has}

-- an element that takes classes is no substitution definition
no_definition : {A : Type 0} (t : Tag) → is_passed_over t ≡ false → t ≡ SubstitutionDefinition → A
no_definition t taker is = let wrong : false ≡ true = sym taker ∙ ap is_passed_over is in absurd cc

module _ (P : ℕ → Bool) (T : List ℕ → Type 0) (s : Suited P T) (h : ℕ) (Flat : Type 0) where
  -- nodes have at most so many levels, their replacement texts are flat if so, and their texts have the property
  abbrev Fits : ℕ → Forest → Type 0
  Fits k f = (levels_by h f ≤ k) × (Flat → AreFlat h f) × TextsHave T f

  abbrev AllFit : ℕ → List Node → Type 0
  AllFit k ns = AllByRecursion (λ n. Fits k (join_node n bare)) ns

  together : (k : ℕ) (ns : List Node) → AllFit k ns → Fits k (forest_of ns)
  together k [] all = (omega arith, λ g. tt, tt)
  together k (Element t a c l ∷ ns) all =
      let r = together k ns all.1 in
      let own = all.0 in (omega (arith, own.0, r.0), λ g. let f = own.1 g in (f.0, f.1, r.1 g), (own.2.0, own.2.1, r.2))
  together k (Text t ∷ ns) all = let r = together k ns all.1 in let own = all.0 in (omega (arith, own.0, r.0), r.1, (own.2.0, r.2))

  message_fits : (k : ℕ) (c : Forest) (l : ℕ) → levels_by h c + 2 ≤ k → TextsHave T c → AllFit k (class_message (slice_get (nodes_of c) 0) l)
  message_fits k (words source r) l low has =
      let text = fixed_has P T s (codes "No suitable element following \"class\" directive") refl in
      ((omega (arith, low), λ g. ((λ is. absurd cc), ((λ is. absurd cc), tt, ((λ is. absurd cc), tt, tt)), tt), ((tt, tt), (tt, (text, tt), ((tt, tt), (has.0, tt), tt)), tt)), tt)
  message_fits k (element t a c l' r) l low has = tt
  message_fits k bare l low has = tt

  all_classed : (k : ℕ) (ends : Bool) (left : List (List ℕ)) (f : Forest) → Fits (k - 1) f → 1 ≤ k → AllFit k (classed ends left f).0
  unfolding classed
  all_classed k ends left bare fits some = tt
  all_classed k ends left (words t r) fits some = ((omega (arith, fits.0), λ g. tt, (fits.2.0, tt)), all_classed k ends left r (omega (arith, fits.0), fits.1, fits.2.1) some)
  all_classed k ends left (element t a c l r) fits some =
      let last : Bool = ends && classes_takers (nodes_of r) == 0 in
      let inside = together (k - 1) (classed last [] c).0 (all_classed (k - 1) last [] c (omega (arith, fits.0), λ g. (fits.1 g).1, fits.2.1) (omega (arith, fits.0))) in
      let rest = λ (after : List (List ℕ)). all_classed k ends after r (omega (arith, fits.0), λ g. (fits.1 g).2, fits.2.2) some in
      cond_both (is_class t) _ _ (λ (own : List Node × List (List ℕ)). AllFit k (put_before own.0 (classed ends own.1 r)).0)
      (λ _. all_append _ _ _ (cond_both last _ _ (AllFit k) (λ _. message_fits k c l (omega (arith, fits.0)) fits.2.1) (λ _. tt)) (rest _))
      (λ _. cond_both (is_passed_over t) _ _ (λ (own : List Node × List (List ℕ)). AllFit k (put_before own.0 (classed ends own.1 r)).0)
      (λ _. ((omega (arith, fits.0), λ g. let f = fits.1 g in (f.0, f.1, tt), (fits.2.0, fits.2.1, tt)), rest left))
      (λ taker. ((omega (arith, fits.0, inside.0), λ g. ((λ is. no_definition t taker is), inside.1 g, tt), (with_listed_has T Classes left a fits.2.0, inside.2, tt)), rest _)))

  pub classes_fit : (directives : Bool) (d : Document) (k : ℕ) → Fits k d.children → Fits (k + 1) (with_classes directives d).children
  classes_fit false d k fits = (omega (arith, fits.0), fits.1, fits.2)
  classes_fit true d k fits = together (k + 1) _ (all_classed (k + 1) true [] d.children (omega (arith, fits.0), fits.1, fits.2) (omega arith))
