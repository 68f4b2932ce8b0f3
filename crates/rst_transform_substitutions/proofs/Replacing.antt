-- The references in a document replaced in place, one node after another.
use Rattle.std.proofs.Common.{◌≡◌, ℕ, ◌+◌, ◌<◌, ◌≤◌, List, [], ◌∷◌, ◌++◌, length, take, drop, get_or, set, append_assoc, append-nil, refl, sym, ◌∙◌, ap, subst, arith, true, false}
use Rattle.std.specs.Prelude.{if◌then◌else◌, Option, None}
use Rattle.std.specs.List.{flat_map, list_any}
use Rattle.std.proofs.lemmas.Bool.{or_parts}
use Rattle.std.proofs.lemmas.List.{flat_map_more, take_more_set, drop-set-lt, drop_all, take_all}
use Rattle.rst_tree.specs.declared.attrs.Attr.{Attr}
use Rattle.rst_tree.specs.declared.node.Node.{Node}
use Rattle.rst_tree.specs.declared.node.Node.TheVariants.{Element, Text}
use Rattle.rst_tree.specs.declared.tag.Tag.{Tag}
use Rattle.rst_tree.specs.Forest.{Forest}
use Rattle.rst_tree.specs.Nodes.{forest_of, nodes_of}
use Rattle.rst_tree_index.specs.Kinds.{is_substitution_reference, is_substitution_reference_node}
use Rattle.rst_tree.proofs.Changes.{forest_of-nodes_of, nodes_of-forest_of}
use Rattle.rst_tree.proofs.EachNode.{drop_item}
use Rattle.rst_tree.proofs.Rewrites.{Same, Same-init, Same-more}
use Rattle.rst_transform_work.specs.declared.context.Context.{Context}
use Rattle.rst_transform_work.specs.declared.document.Document.{Document}
use Rattle.rst_transform_work.specs.Known.{Holds, Known, Makes}
use Rattle.rst_transform_substitutions.specs.declared.definitions.Definitions.{Definitions}
use Rattle.rst_transform_substitutions.specs.Definitions.{definitions_among, found_among, found_by, known_place, place_of_name, AreKnown, Definition}
use Rattle.rst_transform_substitutions.specs.Expanded.{around, expanded_in, followed, unwrapped_reference, replaced, with_expansions, within_element, Nodes}
use Rattle.rst_transform_substitutions.proofs.Defining.{found_known, place_known}

module _ (found : List ℕ → Option (ℕ × Forest)) (place : List ℕ → Option ℕ) (within : Option ℕ) where
  -- what happens to one node
  abbrev pub expanded_node : Node → Known → Nodes
  expanded_node (Text t) known = (Text t ∷ [], known)
  expanded_node (Element t a c l) known = if is_substitution_reference t then replaced found within a l known else around t a l (expanded_in found place (within_element place t a within) c known)

  abbrev rest_of : List Node → Known → Nodes
  rest_of ns known = expanded_in found place within (forest_of ns) known

  next_node : (n : Node) (ns : List Node) (known : Known) → rest_of (n ∷ ns) known ≡ followed (expanded_node n known) (rest_of ns)
  next_node (Text t) ns known = refl
  next_node (Element t a c l) ns known = refl

  -- nodes whose references were replaced before place i
  pub record Replacing (all : Forest) (first now : Context) (nodes : Forest) (i : ℕ) : Type 0 where
    pub same : Same all nodes i
    pub done : (known : Known) → Holds first known
        → (more : Known) × Holds now more × (expanded_in found place within all known ≡ followed (flat_map unwrapped_reference (take i (nodes_of nodes)), more) (rest_of (drop i (nodes_of nodes))))

  pub Replacing-init : (all : Forest) (first : Context) → Replacing all first first all 0
  Replacing-init all first = record {
    same = Same-init all;
    done = λ known h. (known, h, ap (λ f. expanded_in found place within f known) (sym (forest_of-nodes_of all)));
  }

  pub Replacing-more : (all : Forest) (first now between : Context) (nodes : Forest) (i : ℕ) (child new : Node) → Replacing all first now nodes i → i < length (nodes_of nodes) → child ≡ get_or (nodes_of nodes) i child
      → Makes (expanded_node child) now between (unwrapped_reference new) → Replacing all first between (forest_of (set (nodes_of nodes) i new)) (i + 1)
  Replacing-more all first now between nodes i child new left fits is makes =
      let ns = nodes_of nodes in
      let set_is : nodes_of (forest_of (set ns i new)) ≡ set ns i new = nodes_of-forest_of (set ns i new) in
      let parts : drop i ns ≡ child ∷ drop (i + 1) ns = drop_item ns i child fits is in
      let kept : drop (i + 1) (set ns i new) ≡ drop (i + 1) ns = drop-set-lt (i + 1) ns i new (omega arith) in
      let so_far : List Node = flat_map unwrapped_reference (take i ns) in
      record {
        same = Same-more all nodes i new left.same fits;
        done = λ known h.
            let before = left.done known h in
            let made = makes before.0 before.1 in
            let here : Nodes = expanded_node child before.0 in
            let rest : Nodes = rest_of (drop (i + 1) ns) here.1 in
            let whole : expanded_in found place within all known ≡ followed (so_far ++ unwrapped_reference new, here.1) (rest_of (drop (i + 1) ns)) =
            before.2
            ∙ ap (λ xs. followed (so_far, before.0) (rest_of xs)) parts
            ∙ ap (λ (e : Nodes). (so_far ++ e.0, e.1)) (next_node child (drop (i + 1) ns) before.0)
            ∙ ap (λ xs. (xs, rest.1)) (sym (append_assoc so_far here.0 rest.0))
            ∙ ap (λ xs. ((so_far ++ xs) ++ rest.0, rest.1)) (sym made.0) in
            (here.1, made.1, rw (set_is, take_more_set ns i new fits, kept, ← flat_map_more unwrapped_reference [] (take i ns) new) whole);
      }

  pub Replacing-all : (all : Forest) (first now : Context) (nodes : Forest) (i : ℕ) → Replacing all first now nodes i → length (nodes_of nodes) ≤ i
      → Makes (expanded_in found place within all) first now (flat_map unwrapped_reference (nodes_of nodes))
  Replacing-all all first now nodes i left past = λ known h.
      let before = left.done known h in
      let ns = nodes_of nodes in
      let whole : expanded_in found place within all known ≡ (flat_map unwrapped_reference ns, before.0) =
      before.2 ∙ ap (λ xs. followed (flat_map unwrapped_reference (take i ns), before.0) (rest_of xs)) (drop_all i ns past)
      ∙ ap (λ xs. (flat_map unwrapped_reference xs ++ [], before.0)) (take_all i ns past) ∙ ap (λ xs. (xs, before.0)) (append-nil (flat_map unwrapped_reference ns)) in
      (ap (λ (e : Nodes). e.0) (sym whole), subst (Holds now) (ap (λ (e : Nodes). e.1) (sym whole)) before.1)

  -- a text stays
  pub text_stays : (now : Context) (n : Node) (t : List ℕ) → n ≡ Text t → Makes (expanded_node n) now now (unwrapped_reference n)
  text_stays now n t is = rw is (λ known h. (refl, h))

  -- a reference holds the nodes that it gives way to
  pub reference_gives : (now between : Context) (n : Node) (t : Tag) (a left_attrs : List Attr) (c nodes : Forest) (l : ℕ) → n ≡ Element t a c l → is_substitution_reference t ≡ true
      → Makes (replaced found within a l) now between (nodes_of nodes) → Makes (expanded_node n) now between (unwrapped_reference (Element t left_attrs nodes l))
  reference_gives now between n t a left_attrs c nodes l is test makes = rw (is, test) makes

  -- those in another element are replaced
  pub element_holds : (now between : Context) (n : Node) (t : Tag) (a : List Attr) (c nodes : Forest) (l : ℕ) → n ≡ Element t a c l → is_substitution_reference t ≡ false
      → Makes (expanded_in found place (within_element place t a within) c) now between (nodes_of nodes) → Makes (expanded_node n) now between (unwrapped_reference (Element t a nodes l))
  element_holds now between n t a c nodes l is test makes = rw (is, test) (λ known h.
      let made = makes known h in
      (ap (λ f. Element t a f l ∷ []) (sym (forest_of-nodes_of nodes) ∙ ap forest_of made.0), made.1))

-- where there is no reference, all nodes stay in their places
pub none_opened : (ns : List Node) → list_any is_substitution_reference_node ns ≡ false → flat_map unwrapped_reference ns ≡ ns
none_opened [] none = refl
none_opened (Element t a c l ∷ ns) none = let parts = or_parts (is_substitution_reference t) (list_any is_substitution_reference_node ns) none in rw parts.0 (ap (λ xs. Element t a c l ∷ xs) (none_opened ns parts.1))
none_opened (Text t ∷ ns) none = ap (λ xs. Text t ∷ xs) (none_opened ns none)

-- a document whose nodes were expanded by what is known of its definitions
pub document_expanded : (document : Document) (before after : Context) (known : Definitions) (nodes : Forest) → AreKnown (definitions_among document.children) known
    → Makes (expanded_in (found_by known) (known_place known) None document.children) before after (nodes_of nodes) → Makes (with_expansions document) before after (record document { children = nodes })
document_expanded document before after known nodes are makes =
    let all : List Definition = definitions_among document.children in
    let by_all : Makes (expanded_in (found_among all) (place_of_name all) None document.children) before after (nodes_of nodes) = rw (found_known all known are, place_known all known are) at makes in
    λ now h. (ap (λ (c : Forest). record document { children = c }) (sym (forest_of-nodes_of nodes) ∙ ap forest_of (by_all now h).0), (by_all now h).1)
