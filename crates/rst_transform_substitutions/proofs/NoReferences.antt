-- A document without substitution references stays as it is.
use Rattle.std.proofs.Common.{◌≡◌, ℕ, List, ◌∷◌, refl, sym, ◌∙◌, ap, subst, Bool, true, false}
use Rattle.std.specs.Prelude.{Option, None}
use Rattle.std.specs.List.{list_any}
use Rattle.std.proofs.lemmas.Bool.{or_parts}
use Rattle.std.proofs.lemmas.List.Folds.{list_any-append}
use Rattle.rst_tree.specs.declared.node.Node.TheVariants.{Text}
use Rattle.rst_tree.specs.Forest.{Forest, bare, element, words}
use Rattle.rst_tree.specs.Nodes.{nodes_of}
use Rattle.rst_tree.specs.Walk.{items, Item}
use Rattle.rst_tree.proofs.Changes.{forest_of-nodes_of}
use Rattle.rst_transform_work.specs.declared.context.Context.{Context}
use Rattle.rst_transform_work.specs.declared.document.Document.{Document}
use Rattle.rst_tree.proofs.PlainNodes.{nothing_gathered}
use Rattle.rst_tree.specs.Nodes.{are_plain}
use Rattle.rst_tree_index.specs.Kinds.{is_substitution_reference}
use Rattle.rst_transform_work.specs.Known.{Holds, Known, Makes}
use Rattle.rst_transform_work.specs.States.{elements_of}
use Rattle.rst_transform_substitutions.specs.Definitions.{definitions_among, found_among, place_of_name, Definition}
use Rattle.rst_transform_substitutions.specs.Expanded.{expanded_in, with_expansions, within_element, Nodes}

abbrev refers : Item → Bool
refers x = is_substitution_reference x.tag

module _ (found : List ℕ → Option (ℕ × Forest)) (place : List ℕ → Option ℕ) where
  nodes_stay : (within : Option ℕ) (f : Forest) (known : Known) → list_any refers (items f) ≡ false → expanded_in found place within f known ≡ (nodes_of f, known)
  nodes_stay within bare known none = refl
  nodes_stay within (words t r) known none = ap (λ (e : Nodes). (Text t ∷ e.0, e.1)) (nodes_stay within r known none)
  nodes_stay within (element t a c l r) known none =
      let own = or_parts (is_substitution_reference t) _ none in
      let parts = or_parts (list_any refers (items c)) (list_any refers (items r)) (sym (list_any-append refers (items c) (items r)) ∙ own.1) in
      rw (own.0, nodes_stay (within_element place t a within) c known parts.0, nodes_stay within r known parts.1, forest_of-nodes_of c) refl

  -- where no element is among nodes, they stay
  pub plain_stays : (within : Option ℕ) (c : Forest) (context : Context) → are_plain c ≡ true → Makes (expanded_in found place within c) context context (nodes_of c)
  plain_stays within c context plain = λ known h. rw (nodes_stay within c known (ap (list_any refers) (nothing_gathered items (λ t. refl) c plain))) (refl, h)

pub stays_expanded : (document : Document) (context : Context) → list_any (λ x. is_substitution_reference x.tag) (elements_of document) ≡ false → Makes (with_expansions document) context context document
stays_expanded document context none = λ known h.
    let all : List Definition = definitions_among document.children in
    let stay = nodes_stay (found_among all) (place_of_name all) None document.children known none in
    (ap (λ (c : Forest). record document { children = c }) (sym (rw (stay, forest_of-nodes_of document.children) refl)), subst (Holds context) (sym (ap (λ (e : Nodes). e.1) stay)) h)
