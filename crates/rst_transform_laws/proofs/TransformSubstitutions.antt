-- Substitution references that are replaced by flat texts add no level to those that they count as, and the texts keep a property.
use Rattle.std.proofs.Common.{◌≡◌, ℕ, zero, suc, ◌+◌, ◌-◌, ◌≤◌, Bool, true, false, List, [], ◌∷◌, ◌++◌, map, Option, None, Some, Ok, Err, arith, refl}
use Rattle.std.specs.Prelude.{◌==◌, codes, length, if◌then◌else◌, nat_le, option_map, slice_get}
use Rattle.std.specs.List.{list_any, AllByRecursion}
use Rattle.std.specs.Option.{IfSome}
use Rattle.std.proofs.lemmas.Bool.{cond_both}
use Rattle.rst_tree.specs.declared.attrs.Attr.{Attr}
use Rattle.rst_tree.specs.declared.key.Key.TheVariants.{Rawsource, Refname, Serial}
use Rattle.rst_tree.specs.declared.node.Node.TheVariants.{Text}
use Rattle.rst_tree.specs.declared.note.Level.TheVariants.{Error}
use Rattle.rst_tree.specs.declared.tag.Tag.{Tag}
use Rattle.rst_tree.specs.declared.tag.Tag.TheVariants.{SubstitutionDefinition}
use Rattle.rst_tree.specs.Forest.{Forest, bare, element, words, height}
use Rattle.rst_tree_index.specs.Kinds.{is_substitution_reference}
use Rattle.rst_transform_work.specs.declared.document.Document.{Document}
use Rattle.rst_transform_work.specs.Known.{Known}
use Rattle.rst_transform_work.specs.Reading.{rawsource_of}
use Rattle.rst_transform_substitutions.specs.declared.expansion.ExpansionFault.TheVariants.{TooLarge}
use Rattle.rst_transform_substitutions.specs.Definitions.{definitions_among, found_among, own_definition, place_found, place_of_name, placed, Definition}
use Rattle.rst_transform_substitutions.specs.Expanded.{around, expanded_in, followed, given_way, replaced, with_expansions, within_element, Nodes}
use Rattle.rst_transform_substitutions.specs.Expansion.{after_nodes, element_around, entering, expanded_copies, expansion_fault_text, expansion_nodes, given, given_within, most_visited, path_from, refname_of, size_of, then_expanded, Expansion}
use Rattle.rst_tree_laws.proofs.AnyTexts.{Anything, any, any_suited, attrs_any, texts_any}
use Rattle.rst_transform_laws.proofs.AnyDocuments.{known_any}
use Rattle.rst_tree_laws.proofs.Have.{without_key_has}
use Rattle.rst_transform_laws.proofs.Held.{AllHeld, DocumentHeld, Held, KnownHas, held_forest, held_more}
use Rattle.rst_tree_laws.proofs.Lists.{all_append}
use Rattle.rst_tree_laws.proofs.Properties.{Suited}
use Rattle.rst_transform_laws.proofs.ReportTexts.{quoted_has, reported_has, reported_problematic_has, value_or_empty_has}
use Rattle.rst_tree_laws.specs.Texts.{AttrsHave, TextsHave}
use Rattle.rst_tree_index.specs.Parsed.{levels_by, AreFlat}

module _ (P : ℕ → Bool) (T : List ℕ → Type 0) (s : Suited P T) (h : ℕ) (some : 2 ≤ h) where
  -- ---- one reference

  -- nodes of few levels, or a fault whose message has the property, whichever name it quotes
  abbrev Comes : ℕ → Expansion → Type 0
  Comes k (Ok done) = AllHeld T k done.0
  Comes k (Err fault) = (name : List ℕ) → T name → T (expansion_fault_text name fault)

  too_large : (name : List ℕ) → T name → T (expansion_fault_text name TooLarge)
  too_large name g = quoted_has P T s (codes "Substitution expansion too large: \"") name (codes "\".") refl refl g

  then_held : (k : ℕ) (e : Expansion) (rest : ℕ → Expansion) → Comes k e → ((left : ℕ) → Comes k (rest left)) → Comes k (then_expanded e rest)
  then_held k (Ok done) rest i more =
      elim (rest done.1) as (λ e. Comes k e → Comes k (after_nodes done.0 e)) [ Ok later ↦ λ j. all_append (Held T k) done.0 later.0 i j | Err fault ↦ λ j. j ] (more done.1)
  then_held k (Err fault) rest i more = i

  copy_held : (b : Bool) (k m : ℕ) (t : Tag) (a : List Attr) (l : ℕ) (x y : Expansion) → m + 1 ≤ k → (if b then h else 0) ≤ k → AttrsHave T a → Comes h x → Comes m y → Comes k (if b then x else element_around t a l y)
  copy_held true k m t a l x y deep fits g = elim x as (λ e. Comes h e → Comes m y → Comes k e) [ Ok done ↦ λ i j. held_more T h k done.0 fits i | Err fault ↦ λ i j. i ]
  copy_held false k m t a l x y deep fits g =
      elim y as (λ e. Comes h x → Comes m e → Comes k (element_around t a l e))
      [ Ok done ↦ λ i j. (let inside = held_forest T m done.0 j in ((omega (arith, inside.0), (without_key_has T Serial a g, inside.1)), tt)) | Err fault ↦ λ i j. j ]

  module _ (given : List ℕ → ℕ → Expansion) (comes : (name : List ℕ) (left : ℕ) → T name → Comes h (given name left)) where
    copies_held : (f : Forest) (k left : ℕ) → levels_by h f ≤ k → TextsHave T f → Comes k (expanded_copies given f left)
    copies_held bare k left fits g = tt
    copies_held (words t r) k left fits g =
        cond_both (nat_le (size_of (Text t)) left) _ _ (Comes k)
        (λ _. then_held k (Ok (Text t ∷ [], left - size_of (Text t))) (expanded_copies given r) ((omega arith, g.0), tt) (λ then_left. copies_held r k then_left (omega arith) g.1)) (λ _. too_large)
    copies_held (element t a c l r) k left fits g =
        let m : ℕ = left - 1 in
        cond_both (nat_le 1 left) _ _ (Comes k)
        (λ _. then_held k _ (expanded_copies given r)
        (copy_held (is_substitution_reference t) k (levels_by h c) t a l (given (refname_of a) m) (expanded_copies given c m) (omega arith) (omega arith) g.0 (comes (refname_of a) m (value_or_empty_has P T s Refname a refl g.0)) (copies_held c (levels_by h c) m (omega arith) g.1))
        (λ then_left. copies_held r k then_left (omega arith) g.2)) (λ _. too_large)

  -- a name with nodes, or a place with those
  abbrev Flat : {A : Type 0} → A × Forest → Type 0
  Flat one = (levels_by h one.1 ≤ h) × TextsHave T one.1

  entering_held : (path name : List ℕ) (o : Option (ℕ × Forest)) (content : ℕ × Forest → Expansion) → T name → IfSome o Flat → ((one : ℕ × Forest) → Flat one → Comes h (content one)) → Comes h (entering path name o content)
  entering_held path name None content g flat comes = λ _ _. quoted_has P T s (codes "Undefined substitution referenced: \"") name (codes "\".") refl refl g
  entering_held path name (Some one) content g flat comes =
      cond_both (list_any (λ place. place == one.0) path) _ _ (Comes h) (λ _ _ _. quoted_has P T s (codes "Circular substitution definition referenced: \"") name (codes "\".") refl refl g) (λ _. comes one flat)

  -- ---- a document

  abbrev NodesHeld : ℕ → Nodes → Type 0
  NodesHeld k done = AllHeld T k done.0 × KnownHas T done.1

  way_held : (a : List Attr) (l : ℕ) (e : Expansion) (known : Known) → AttrsHave T a → Comes h e → KnownHas T known → NodesHeld h (given_way a l (expansion_nodes e) known)
  way_held a l (Ok done) known g i k = (i, k)
  way_held a l (Err fault) known g i k =
      let name_has = value_or_empty_has P T s Refname a refl g in
      let done = reported_problematic_has P T s (length known.reports) (rawsource_of a) l _ (value_or_empty_has P T s Rawsource a refl g) (reported_has P T s Error l _ true known (i (refname_of a) name_has) k) in
      (((omega arith, done.0), tt), done.1)

  followed_held : (k : ℕ) (here : Nodes) (rest : Known → Nodes) → NodesHeld k here → ((known : Known) → KnownHas T known → NodesHeld k (rest known)) → NodesHeld k (followed here rest)
  followed_held k here rest i more = let later = more here.1 i.1 in (all_append (Held T k) here.0 _ i.0 later.0, later.1)

  node_held : (b : Bool) (k m : ℕ) (t : Tag) (a : List Attr) (l : ℕ) (x y : Nodes) → m + 1 ≤ k → (if b then h else 0) ≤ k → AttrsHave T a → NodesHeld h x → NodesHeld m y → NodesHeld k (if b then x else around t a l y)
  node_held true k m t a l x y deep fits g i j = (held_more T h k x.0 fits i.0, i.1)
  node_held false k m t a l x y deep fits g i j = let inside = held_forest T m y.0 j.0 in (((omega (arith, inside.0), (g, inside.1)), tt), j.1)

  module _ (found : List ℕ → Option (ℕ × Forest)) (finds : (name : List ℕ) → IfSome (found name) Flat) where
    given_held : (more : ℕ) (path name : List ℕ) (left : ℕ) → T name → Comes h (given_within found more path name left)
    unfolding given_within
    given_held zero path name left g = entering_held path name (found name) _ g (finds name) (λ one flat. too_large)
    given_held (suc more) path name left g =
        entering_held path name (found name) _ g (finds name) (λ one flat. copies_held (given_within found more (path ++ one.0 ∷ [])) (given_held more (path ++ one.0 ∷ [])) one.1 h left flat.0 flat.1)

    nodes_held : (place : List ℕ → Option ℕ) (f : Forest) (within : Option ℕ) (known : Known) (k : ℕ) → levels_by h f ≤ k → TextsHave T f → KnownHas T known → NodesHeld k (expanded_in found place within f known)
    nodes_held place bare within known k fits g i = (tt, i)
    nodes_held place (words t r) within known k fits g i = followed_held k (Text t ∷ [], known) (expanded_in found place within r) (((omega arith, g.0), tt), i) (λ later. nodes_held place r within later k (omega arith) g.1)
    nodes_held place (element t a c l r) within known k fits g i =
        followed_held k _ (expanded_in found place within r)
        (node_held (is_substitution_reference t) k (levels_by h c) t a l (replaced found within a l known) (expanded_in found place (within_element place t a within) c known) (omega arith) (omega arith) g.0
        (way_held a l (given found (path_from within) (refname_of a) most_visited) known g.0 (given_held _ (path_from within) (refname_of a) most_visited (value_or_empty_has P T s Refname a refl g.0)) i)
        (nodes_held place c (within_element place t a within) known (levels_by h c) (omega arith) g.1 i)) (λ later. nodes_held place r within later k (omega arith) g.2)

  own_flat : (t : Tag) (a : List Attr) (c : Forest) → (t ≡ SubstitutionDefinition → levels_by h c ≤ h) → TextsHave T c → AllByRecursion Flat (own_definition t a c)
  own_flat SubstitutionDefinition a c flat g = ((flat refl, g), tt)
  own_flat _ a c flat g = tt

  all_flat : (f : Forest) → AreFlat h f → TextsHave T f → AllByRecursion Flat (definitions_among f)
  all_flat bare flat g = tt
  all_flat (words t r) flat g = all_flat r flat g.1
  all_flat (element t a c l r) flat g = all_append Flat (own_definition t a c) _ (own_flat t a c flat.0 g.1) (all_append Flat (definitions_among c) _ (all_flat c flat.1 g.1) (all_flat r flat.2 g.2))

  at_flat : (all : List Definition) (place i : ℕ) → AllByRecursion Flat all → IfSome (option_map (λ content. (place, content)) (slice_get (map (λ one. one.1) all) i)) Flat
  at_flat [] place i flat = tt
  at_flat (one ∷ all) place zero flat = flat.0
  at_flat (one ∷ all) place (suc i) flat = at_flat all place i flat.1

  pub substitutions_held : (m : ℕ) (document : Document) (known : Known) → AreFlat h document.children → levels_by h document.children ≤ m → TextsHave T document.children → AttrsHave T document.attrs → KnownHas T known
      → DocumentHeld T m (with_expansions document known).0 × KnownHas T (with_expansions document known).1
  substitutions_held m document known flat fits g a k =
      let all : List Definition = definitions_among document.children in
      let finds = λ (name : List ℕ). elim (place_found all name) as (λ o. IfSome (placed (map (λ one. one.1) all) o) Flat) [ None ↦ tt | Some place ↦ at_flat all place place (all_flat document.children flat g) ] in
      let held = nodes_held (found_among all) finds (place_of_name all) document.children None known m fits g k in
      ((held_forest T m _ held.0, a), held.1)

-- the law on levels for each document
pub substitutions_low : (h : ℕ) → 2 ≤ h → (document : Document) (known : Known) → AreFlat h document.children → height ((with_expansions document known).0).children ≤ levels_by h document.children
substitutions_low h some document known flat =
    (substitutions_held any Anything any_suited h some _ document known flat (omega arith) (texts_any document.children) (attrs_any document.attrs) (known_any known)).0.0.0
