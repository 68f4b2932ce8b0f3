-- The expansion of a reference.
use Rattle.std.proofs.Common.{◌≡◌, ℕ, zero, suc, ◌+◌, ◌-◌, get_or, sym, append_assoc, ◌<◌, ◌≤◌, List, [], ◌∷◌, ◌++◌, length, drop, refl, ◌∙◌, ap, arith, true, false, length-append}
use Rattle.std.specs.Prelude.{◌==◌, nat_le, slice_get, Option, Some, None, Result, Ok, Err}
use Rattle.std.specs.List.{list_any}
use Rattle.std.proofs.lemmas.Bool.{le-leb}
use Rattle.std.proofs.lemmas.List.{drop_more}
use Rattle.rst_tree.specs.declared.attrs.Attr.{Attr}
use Rattle.rst_tree.specs.declared.node.Node.{Node}
use Rattle.rst_tree.specs.declared.node.Node.TheVariants.{Element}
use Rattle.rst_tree.specs.declared.tag.Tag.{Tag}
use Rattle.rst_tree.specs.Forest.{Forest, element}
use Rattle.rst_tree.specs.Nodes.{forest_of, join_node, nodes_of}
use Rattle.rst_tree.proofs.Changes.{nodes_of-forest_of}
use Rattle.rst_tree_index.specs.Kinds.{is_substitution_reference}
use Rattle.rst_transform_substitutions.specs.declared.definitions.Definitions.{Definitions}
use Rattle.rst_transform_substitutions.specs.declared.expansion.ExpansionFault.{ExpansionFault}
use Rattle.rst_transform_substitutions.specs.declared.expansion.ExpansionFault.TheVariants.{Undefined, Circular, TooLarge}
use Rattle.rst_transform_substitutions.specs.Definitions.{found_by, known_found}
use Rattle.rst_transform_substitutions.specs.Expansion.{after_nodes, expanded_copies, expansion_nodes, given, given_within, most_nested, refname_of, Expansion}

-- the nodes before some, with what those come to while so much may be visited
abbrev pub so_far : (List ℕ → ℕ → Expansion) → List Node → List Node → ℕ → ℕ → Expansion
so_far given nodes ns i left = after_nodes nodes (expanded_copies given (forest_of (drop i ns)) left)

after_both : (xs ys : List Node) (e : Expansion) → after_nodes xs (after_nodes ys e) ≡ after_nodes (xs ++ ys) e
after_both xs ys (Ok done) = ap (λ (nodes : List Node). let made : List Node → ℕ → Expansion = λ m left. Ok (m, left) in made nodes done.1) (sym (append_assoc xs ys done.0))
after_both xs ys (Err fault) = refl

-- a reference that gives way to nodes is replaced
pub copied_more : (given : List ℕ → ℕ → Expansion) (nodes copied new ns : List Node) (i : ℕ) (n : Node) (t : Tag) (a : List Attr) (c : Forest) (l left more rest : ℕ) → n ≡ Element t a c l → n ≡ get_or ns i n → i < length ns → is_substitution_reference t ≡ true → more + 1 ≡ left
    → given (refname_of a) more ≡ Ok (copied, rest) → new ≡ nodes ++ copied → so_far given new ns (i + 1) rest ≡ so_far given nodes ns i left
copied_more given nodes copied new ns i n t a c l left more rest is at within kind counted here added =
    let first : forest_of (drop i ns) ≡ element t a c l (forest_of (drop (i + 1) ns)) = ap forest_of (drop_more ns i n within) ∙ ap (λ n. join_node n (forest_of (drop (i + 1) ns))) (sym at ∙ is) in
    let fits : nat_le 1 left ≡ true = le-leb 1 left (omega (arith, counted)) in
    let less : left - 1 ≡ more = omega (arith, counted) in
    rw (added, first, fits, kind, less, here) (sym (after_both nodes copied (expanded_copies given (forest_of (drop (i + 1) ns)) rest)))

-- the definition that is known to be found
pub found-some : (known : Definitions) (name : List ℕ) (place : ℕ) (content : Forest) → known_found known name ≡ Some place → slice_get known.contents.items place ≡ Some content → found_by known name ≡ Some (place, content)
found-some known name place content is there = rw (is, there) refl

-- what a reference comes to
pub undefined_within : (found : List ℕ → Option (ℕ × Forest)) (more : ℕ) (path name : List ℕ) (left : ℕ) → found name ≡ None → given_within found more path name left ≡ Err (Undefined name)
unfolding given_within
undefined_within found zero path name left none = rw none refl
undefined_within found (suc more) path name left none = rw none refl

pub circular_within : (found : List ℕ → Option (ℕ × Forest)) (more : ℕ) (path name : List ℕ) (left : ℕ) (one : ℕ × Forest) → found name ≡ Some one → list_any (λ place. place == one.0) path ≡ true → given_within found more path name left ≡ Err (Circular name)
unfolding given_within
circular_within found zero path name left one is among = rw (is, among) refl
circular_within found (suc more) path name left one is among = rw (is, among) refl

pub too_deep_within : (found : List ℕ → Option (ℕ × Forest)) (path name : List ℕ) (left : ℕ) (one : ℕ × Forest) → found name ≡ Some one → list_any (λ place. place == one.0) path ≡ false → given_within found zero path name left ≡ Err TooLarge
unfolding given_within
too_deep_within found path name left one is among = rw (is, among) refl

pub entered_within : (found : List ℕ → Option (ℕ × Forest)) (more : ℕ) (path name : List ℕ) (left : ℕ) (one : ℕ × Forest) → found name ≡ Some one → list_any (λ place. place == one.0) path ≡ false
    → given_within found (suc more) path name left ≡ expanded_copies (given_within found more (path ++ one.0 ∷ [])) one.1 left
unfolding given_within
entered_within found more path name left one is among = rw (is, among) refl

pub given-too_deep : (found : List ℕ → Option (ℕ × Forest)) (path name : List ℕ) (left : ℕ) (one : ℕ × Forest) → found name ≡ Some one → list_any (λ place. place == one.0) path ≡ false → most_nested ≤ length path → given found path name left ≡ Err TooLarge
given-too_deep found path name left one is among deep =
    let none : most_nested - length path ≡ zero = omega (arith, deep) in
    ap (λ more. given_within found more path name left) none ∙ too_deep_within found path name left one is among

pub given-entered : (found : List ℕ → Option (ℕ × Forest)) (path name : List ℕ) (left : ℕ) (one : ℕ × Forest) → found name ≡ Some one → list_any (λ place. place == one.0) path ≡ false → length path < most_nested
    → given found path name left ≡ expanded_copies (given found (path ++ one.0 ∷ [])) one.1 left
given-entered found path name left one is among within =
    let more : most_nested - length path ≡ suc (most_nested - length (path ++ one.0 ∷ [])) = omega (arith, length-append path (one.0 ∷ []), within) in
    ap (λ more. given_within found more path name left) more ∙ entered_within found (most_nested - length (path ++ one.0 ∷ [])) path name left one is among

-- what a reference comes to whose nodes are put into an empty list
pub expansion_is : (reference e : Expansion) (ns : List Node) (rest : ℕ) (nodes : Forest) → reference ≡ e → after_nodes [] e ≡ Ok (ns, rest) → nodes ≡ forest_of ns → expansion_nodes reference ≡ Ok (nodes_of nodes)
expansion_is reference (Ok done) ns rest nodes is all made =
    let same : done.0 ≡ ns = cc in
    let wanted : List Node → Result (List Node) ExpansionFault = λ xs. Ok xs in
    ap expansion_nodes is ∙ ap wanted (same ∙ sym (ap nodes_of made ∙ nodes_of-forest_of ns))
expansion_is reference (Err fault) ns rest nodes is all made = absurd (cc)
