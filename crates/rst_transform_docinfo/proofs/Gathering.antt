-- The fields of a bibliography, taken in one after another.
use Rattle.std.proofs.Common.{◌≡◌, ◌∙◌, ℕ, suc, ◌<◌, ◌≤◌, List, [], ◌∷◌, ◌++◌, length, get_or, take, drop, Option, Some, None, refl, ap, sym, drop-cons, arith}
use Rattle.std.specs.Prelude.{slice_index_or, slice_get, unwrap_or, true, option_map}
use Rattle.std.specs.List.{prefix_len, remove}
use Rattle.std.proofs.lemmas.Grind.{common_steps}
use Rattle.std.proofs.lemmas.List.{append-nil}
use Rattle.std.proofs.lemmas.Option.{unwrap_or-slice_get}
use Rattle.rst_settings.specs.declared.Parts.{Parts}
use Rattle.rst_tree.proofs.Changes.{nodes_of-forest_of}
use Rattle.rst_tree.specs.declared.attrs.Attr.{Attr}
use Rattle.rst_tree.specs.declared.node.Node.{Node}
use Rattle.rst_tree.specs.declared.node.Node.TheVariants.{Element, Text}
use Rattle.rst_tree.specs.Forest.{Forest}
use Rattle.rst_tree.specs.Nodes.{forest_of, nodes_of}
use Rattle.rst_transform_docinfo.specs.Authors.{all_paragraphs, and_author}
use Rattle.rst_transform_docinfo.specs.Docinfo.{after_titles, is_list, leading_list, list_place, nodes_with_docinfo, replaced}
use Rattle.rst_transform_docinfo.specs.Gathered.{Gathered, gathered, with_field_node}
use Rattle.rst_transform_docinfo.specs.Fields.{docinfo_field, lone, paragraph_in}
use Rattle.rst_transform_work.specs.Reading.{is_title}
use Rattle.rst_transform_work.specs.declared.report.Report.{Report}

-- two nodes are the name and the body of a field
pub two_parts : (a : List Attr) (xs : List Node) (l : ℕ) (name body : Node) → length xs ≡ 2 → body ≡ slice_index_or xs 1 body → name ≡ slice_index_or (remove xs 1) 0 name
    → docinfo_field a xs l ≡ Some (record { attrs = a; name = name; body = body; line = l })
two_parts a [] l name body two b n = absurd (omega arith)
two_parts a (x ∷ []) l name body two b n = absurd (omega arith)
two_parts a (x ∷ y ∷ []) l name body two b n = rw (n, b) refl
two_parts a (x ∷ y ∷ z ∷ zs) l name body two b n = absurd (omega arith)

-- any other number of nodes is no field
pub no_parts : (a : List Attr) (xs : List Node) (l : ℕ) → (length xs ≡ 2 → ⊥) → docinfo_field a xs l ≡ None
no_parts a [] l other = refl
no_parts a (x ∷ []) l other = refl
no_parts a (x ∷ y ∷ []) l other = absurd (other refl)
no_parts a (x ∷ y ∷ z ∷ zs) l other = refl

-- the only one of some nodes
pub lone_one : (f : Forest) (xs : List Node) (n : Node) → f ≡ forest_of xs → length xs ≡ 1 → n ≡ slice_index_or xs 0 n → lone f ≡ Some n
lone_one f [] n e one at = absurd (omega arith)
lone_one f (Element t a c l ∷ []) n e one at = rw (e, at) refl
lone_one f (Text t ∷ []) n e one at = rw (e, at) refl
lone_one f (x ∷ y ∷ zs) n e one at = absurd (omega arith)

pub lone_none : (f : Forest) (xs : List Node) → f ≡ forest_of xs → (length xs ≡ 1 → ⊥) → lone f ≡ None
lone_none f [] e other = ap lone e
lone_none f (x ∷ []) e other = absurd (other refl)
lone_none f (Element t a c l ∷ Element u b d m ∷ zs) e other = ap lone e
lone_none f (Element t a c l ∷ Text u ∷ zs) e other = ap lone e
lone_none f (Text t ∷ Element u b d m ∷ zs) e other = ap lone e
lone_none f (Text t ∷ Text u ∷ zs) e other = ap lone e

-- ---- the authors that a field names

-- each item of a list has been seen
pub items_seen : (line : ℕ) (f : Forest) (xs nodes : List Node) (i : ℕ) → f ≡ forest_of xs → length xs ≤ i → option_map (λ more. nodes ++ more) (all_paragraphs line (drop i xs)) ≡ all_paragraphs line xs
    → all_paragraphs line (nodes_of f) ≡ Some nodes
items_seen line f xs nodes i e all h =
    let over : drop i xs ≡ [] = grind (arith, common_steps) in
    ap (λ z. all_paragraphs line (nodes_of z)) e ∙ ap (all_paragraphs line) (nodes_of-forest_of xs) ∙ sym h
    ∙ ap (λ z. option_map (λ more. nodes ++ more) (all_paragraphs line z)) over ∙ ap Some (append-nil nodes)

-- one of the items isn't one paragraph
pub item_refused : (line : ℕ) (f : Forest) (xs nodes : List Node) (i : ℕ) (n : Node) → f ≡ forest_of xs → i < length xs → n ≡ get_or xs i n → paragraph_in n ≡ None
    → option_map (λ more. nodes ++ more) (all_paragraphs line (drop i xs)) ≡ all_paragraphs line xs → all_paragraphs line (nodes_of f) ≡ None
item_refused line f xs nodes i n e fits at none h =
    let d : drop i xs ≡ n ∷ drop (suc i) xs = drop-cons xs i n fits ∙ ap (λ m. m ∷ drop (suc i) xs) (sym at) in
    ap (λ z. all_paragraphs line (nodes_of z)) e ∙ ap (all_paragraphs line) (nodes_of-forest_of xs) ∙ sym h
    ∙ ap (λ z. option_map (λ more. nodes ++ more) (all_paragraphs line z)) d
    ∙ ap (λ z. option_map (λ more. nodes ++ more) (and_author line z (all_paragraphs line (drop (suc i) xs)))) none

-- one more node of the list
pub gathered_more : (first : ℕ) (g : Gathered) (xs : List Node) (n : Node) → gathered first g (xs ++ n ∷ []) ≡ with_field_node first n (gathered first g xs)
gathered_more first g [] n = refl
gathered_more first g (x ∷ xs) n = gathered_more first (with_field_node first x g) xs n

-- ---- the document

-- a field list at a place
found_list : (o : Option Node) (n : Node) → is_list o ≡ true → n ≡ unwrap_or o n → o ≡ Some n
found_list None n is at = grind (arith, is)
found_list (Some m) n is at = ap Some (sym at)

pub list_there : (nodes : List Node) (place : ℕ) (n : Node) → place ≡ list_place nodes → is_list (slice_get nodes place) ≡ true → n ≡ get_or nodes place n → leading_list nodes ≡ Some n
list_there nodes place n there is at =
    let first : slice_get nodes (list_place nodes) ≡ Some n = ap (slice_get nodes) (sym there) ∙ found_list (slice_get nodes place) n is (at ∙ sym (unwrap_or-slice_get nodes place n)) in
    rw (ap (λ i. is_list (slice_get nodes i)) (sym there) ∙ is) first

-- what it became comes after the titles
pub list_replaced : (parts : Parts) (first : ℕ) (reports : List Report) (nodes rest made all : List Node) (place count : ℕ) (n : Node) → leading_list nodes ≡ Some n → place ≡ list_place nodes → rest ≡ remove nodes place
    → made ≡ (replaced parts first reports n).0 → count ≡ prefix_len is_title rest → all ≡ take count rest ++ (made ++ drop count rest) → all ≡ (nodes_with_docinfo parts first reports (leading_list nodes) nodes).0
list_replaced parts first reports nodes rest made all place count n list there left is titles put =
    put ∙ ap (λ k. take k rest ++ (made ++ drop k rest)) titles ∙ ap (λ m. after_titles m rest) is ∙ ap (after_titles (replaced parts first reports n).0) (left ∙ ap (remove nodes) there)
    ∙ sym (ap (λ o. (nodes_with_docinfo parts first reports o nodes).0) list)
