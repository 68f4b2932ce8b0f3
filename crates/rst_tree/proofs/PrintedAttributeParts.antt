-- The attributes that elements are printed with, written part by part.
use Rattle.std.proofs.Common.{◌≡◌, ℕ, ◌+◌, ◌≤◌, List, [], ◌∷◌, ◌++◌, length, take, drop, add-one, arith, refl, sym, ap, append_assoc, ◌∙◌, true, false, Option, Some, None}
use Rattle.std.specs.Prelude.{if◌then◌else◌, ◌*◌, map, nat_lt, replicate}
use Rattle.std.specs.List.{flat_map}
use Rattle.std.proofs.lemmas.Grind.{common_steps}
use Rattle.std.proofs.lemmas.List.{take_all}
use Rattle.std.proofs.lemmas.List.Concat.{flat_map-append}
use Rattle.std.proofs.lemmas.List.Folds.{flat_map-map}
use Rattle.rst_tree.specs.declared.attrs.Attr.{Attr}
use Rattle.rst_tree.specs.declared.attrs.Value.{Value}
use Rattle.rst_tree.specs.declared.attrs.Value.TheVariants.{Text as Words}
use Rattle.rst_tree.specs.declared.key.Key.{Key}
use Rattle.rst_tree.specs.declared.key.Key.TheVariants.{Source, Type_}
use Rattle.rst_tree.specs.declared.node.Node.{Node}
use Rattle.rst_tree.specs.declared.node.Node.TheVariants.{Element, Text}
use Rattle.rst_tree.specs.declared.tag.Tag.{Tag}
use Rattle.rst_tree.specs.Attributes.{attr, with_attr, places_below, is_at, attrs_before, following}
use Rattle.rst_tree.specs.Forest.{Forest}
use Rattle.rst_tree.specs.KeyNames.{key_code}
use Rattle.rst_tree.specs.LevelNames.{level_name, level_by_number}
use Rattle.rst_tree.specs.Nodes.{forest_of}
use Rattle.rst_tree.specs.Print.{deeper_level, start_tag, text_lines, printed_line, printed_node}
use Rattle.rst_tree.specs.PrintedAttributes.{with_source, with_type, printed_attrs, all_with_printed_attrs, with_printed_attrs}
use Rattle.rst_tree.proofs.PrintedParts.{printed-element, printed-words}
use Rattle.rst_tree.specs.KeyNames.{is_same}

-- the attributes before a name, and those after it, by their places
pub before_place : (k : Key) (xs : List Attr) → take (places_below k xs) xs ≡ attrs_before k xs
before_place k [] = refl
before_place k (a ∷ xs) = let e : take (places_below k xs + 1) (a ∷ xs) ≡ a ∷ take (places_below k xs) xs = rw add-one refl in grind (arith, e, before_place k xs)

pub following_there : (k : Key) (xs : List Attr) → is_at k (drop (places_below k xs) xs) ≡ true → drop (places_below k xs + 1) xs ≡ following k xs
following_there k [] h = cc
following_there k (a ∷ xs) h =
    elim (nat_lt (key_code a.key) (key_code k)) as (λ b. is_at k (drop (if b then places_below k xs + 1 else 0) (a ∷ xs)) ≡ true
    → drop ((if b then places_below k xs + 1 else 0) + 1) (a ∷ xs) ≡ (if b then following k xs else (if is_same a.key k then xs else a ∷ xs))) [
      | true ↦ λ h. rw (add-one, add-one) (rw add-one at (following_there k xs (rw add-one at h)))
      | false ↦ λ h. rw h refl
    ] h

pub following_between : (k : Key) (xs : List Attr) → is_at k (drop (places_below k xs) xs) ≡ false → drop (places_below k xs) xs ≡ following k xs
following_between k [] h = refl
following_between k (a ∷ xs) h = grind (arith, common_steps, following_between k xs)

-- an attribute that is added is between those before it and after it
pub parted : (k : Key) (v : Value) (xs : List Attr) → attrs_before k xs ++ (attr k v ∷ following k xs) ≡ with_attr k v xs
parted k v [] = refl
parted k v (a ∷ xs) =
    elim (nat_lt (key_code a.key) (key_code k)) as (λ b. (if b then a ∷ attrs_before k xs else []) ++ (attr k v ∷ (if b then following k xs else (if is_same a.key k then xs else a ∷ xs)))
    ≡ (if b then a ∷ with_attr k v xs else (if is_same a.key k then attr k v ∷ xs else attr k v ∷ a ∷ xs))) [
      | true ↦ ap (λ ys. a ∷ ys) (parted k v xs)
      | false ↦ elim (is_same a.key k) as (λ s. attr k v ∷ (if s then xs else a ∷ xs) ≡ (if s then attr k v ∷ xs else attr k v ∷ a ∷ xs)) [ true ↦ refl | false ↦ refl ]
    ]

rising : (m n p : ℕ) → nat_lt m n ≡ true → nat_lt n p ≡ true → nat_lt m p ≡ true
rising m n p h k = grind (arith, h, k)

-- one of a later name is among those after it
passed : (k j : Key) (v w : Value) (xs ys : List Attr) → nat_lt (key_code k) (key_code j) ≡ true
    → with_attr j w (attrs_before k xs ++ (attr k v ∷ ys)) ≡ attrs_before k xs ++ (attr k v ∷ with_attr j w ys)
passed k j v w [] ys h = rw h refl
passed k j v w (a ∷ xs) ys h =
    elim (nat_lt (key_code a.key) (key_code k)) as (λ b. nat_lt (key_code a.key) (key_code k) ≡ b
    → with_attr j w ((if b then a ∷ attrs_before k xs else []) ++ (attr k v ∷ ys)) ≡ (if b then a ∷ attrs_before k xs else []) ++ (attr k v ∷ with_attr j w ys)) [
      | true ↦ λ low. rw (rising (key_code a.key) (key_code k) (key_code j) low h) (ap (λ zs. a ∷ zs) (passed k j v w xs ys h))
      | false ↦ λ high. rw h refl
    ] refl

source_is_later : (k : Key) (v : Value) (source : Option (List ℕ)) (xs ys : List Attr) → nat_lt (key_code k) (key_code Source) ≡ true
    → with_source source (attrs_before k xs ++ (attr k v ∷ ys)) ≡ attrs_before k xs ++ (attr k v ∷ with_source source ys)
source_is_later k v None xs ys h = refl
source_is_later k v (Some source) xs ys h = passed k Source v (Words source) xs ys h

type_is_later : (k : Key) (v : Value) (level : Option ℕ) (xs ys : List Attr) → nat_lt (key_code k) (key_code Type_) ≡ true
    → with_type level (attrs_before k xs ++ (attr k v ∷ ys)) ≡ attrs_before k xs ++ (attr k v ∷ with_type level ys)
type_is_later k v None xs ys h = refl
type_is_later k v (Some number) xs ys h = passed k Type_ v (Words (level_name (level_by_number number))) xs ys h

-- the type comes after an attribute that is added, and the source too
pub type_after : (k : Key) (v : Value) (level : Option ℕ) (xs : List Attr) → nat_lt (key_code k) (key_code Type_) ≡ true
    → attrs_before k xs ++ (attr k v ∷ with_type level (following k xs)) ≡ with_type level (with_attr k v xs)
type_after k v level xs h = sym (type_is_later k v level xs (following k xs) h) ∙ ap (with_type level) (parted k v xs)

pub source_and_type_after : (k : Key) (v : Value) (source : Option (List ℕ)) (level : Option ℕ) (xs : List Attr) → nat_lt (key_code k) (key_code Source) ≡ true → nat_lt (key_code k) (key_code Type_) ≡ true
    → attrs_before k xs ++ (attr k v ∷ with_type level (with_source source (following k xs))) ≡ with_type level (with_source source (with_attr k v xs))
source_and_type_after k v source level xs h h' =
    sym (type_is_later k v level xs (with_source source (following k xs)) h')
    ∙ ap (with_type level) (sym (source_is_later k v source xs (following k xs) h) ∙ ap (with_source source) (parted k v xs))

-- what is made of a list, of the parts round one of its items
pub made_of_parts : (f : Attr → List ℕ) (xs ys zs : List Attr) (x : Attr) → xs ++ (x ∷ ys) ≡ zs → (flat_map f xs ++ f x) ++ flat_map f ys ≡ flat_map f zs
made_of_parts f xs ys zs x whole =
    append_assoc (flat_map f xs) (f x) (flat_map f ys) ∙ sym (flat_map-append f xs (x ∷ ys)) ∙ ap (flat_map f) whole

-- nodes with the attributes that they are printed with, node by node
nodes-with-attrs : (source : Option (List ℕ)) (ns : List Node) → all_with_printed_attrs source (forest_of ns) ≡ forest_of (map (with_printed_attrs source) ns)
nodes-with-attrs source [] = refl
nodes-with-attrs source (Element t a c l ∷ ns) = rw (nodes-with-attrs source ns) refl
nodes-with-attrs source (Text t ∷ ns) = rw (nodes-with-attrs source ns) refl

-- what is printed of an element: its line, and then its nodes
printed-with-attrs : (source : Option (List ℕ)) (n : ℕ) (t : Tag) (a : List Attr) (l : ℕ) (ns : List Node)
    → (replicate (4 * n) 32 ++ (start_tag t (printed_attrs source t a l) ++ 10 ∷ [])) ++ flat_map (λ x. printed_node (deeper_level n) (with_printed_attrs source x)) ns
    ≡ printed_node n (with_printed_attrs source (Element t a (forest_of ns) l))
printed-with-attrs source n t a l ns =
    ap (λ z. (replicate (4 * n) 32 ++ (start_tag t (printed_attrs source t a l) ++ 10 ∷ [])) ++ z) (sym (flat_map-map (printed_node (deeper_level n)) (with_printed_attrs source) ns))
    ∙ printed-element n t (printed_attrs source t a l) l (map (with_printed_attrs source) ns)
    ∙ ap (λ f. printed_node n (Element t (printed_attrs source t a l) f l)) (sym (nodes-with-attrs source ns))

-- the same of an element that a node is
pub element-with-attrs : (source : Option (List ℕ)) (n : ℕ) (node : Node) (t : Tag) (a : List Attr) (c : Forest) (l : ℕ) (ns : List Node) (i : ℕ)
    → node ≡ Element t a c l → c ≡ forest_of ns → length ns ≤ i
    → (replicate (4 * n) 32 ++ (start_tag t (printed_attrs source t a l) ++ 10 ∷ [])) ++ flat_map (λ x. printed_node (deeper_level n) (with_printed_attrs source x)) (take i ns)
    ≡ printed_node n (with_printed_attrs source node)
element-with-attrs source n node t a c l ns i is nodes all = rw (is, nodes, take_all i ns all) (printed-with-attrs source n t a l ns)

-- and of a text
pub words-with-attrs : (source : Option (List ℕ)) (n : ℕ) (node : Node) (t t' : List ℕ) → node ≡ Text t → t' ≡ t
    → flat_map (λ l. printed_line (n, l)) (text_lines t') ≡ printed_node n (with_printed_attrs source node)
words-with-attrs source n node t t' is same = rw is (printed-words n (Text t) t t' refl same)
