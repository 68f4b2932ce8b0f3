-- The elements of a term and its classifiers.
use Rattle.std.proofs.Common.{◌≡◌, ◌==◌, ℕ, false, List, [], ◌∷◌, ◌++◌, length, Option, None, Some, Vec, Global, append_assoc, append-nil, refl, sym, ap, ◌∙◌}
use Rattle.std.specs.Prelude.{map}
use Rattle.rst_tree.specs.declared.node.Node.{Node}
use Rattle.rst_tree.specs.declared.node.Node.TheVariants.{Element, Text as Words}
use Rattle.rst_tree.specs.declared.tag.Tag.TheVariants.{Term}
use Rattle.rst_block_nodes.specs.Elements.{element_of}
use Rattle.rst_block_nodes.specs.Texts.{counting}
use Rattle.rst_block_nodes.specs.Terms.{with_parts, led, ended_groups, classifier_node, heads_of}

-- the lists of vectors
abbrev pub lists_of : List (Vec (Option Node) Global) → List (List (Option Node))
lists_of vectors = map (λ v. v.items) vectors

-- ---- nodes with the parts of their texts

element_apart : (texts : List (List (Option Node))) (node : Node) (rest : List Node) → ((t : List ℕ) → node ≡ Words t → ⊥) → with_parts texts (node ∷ rest) ≡ Some node ∷ with_parts texts rest
element_apart [] node rest h = refl
element_apart (parts ∷ texts) (Words t) rest h = absurd (h t refl)
element_apart (parts ∷ texts) (Element t a c l) rest h = refl

-- an element stays whole
pub put_element : (all : List (Option Node)) (texts : List (List (Option Node))) (node : Node) (nodes rest : List Node) → nodes ≡ node ∷ rest → ((t : List ℕ) → node ≡ Words t → ⊥) → (all ++ Some node ∷ []) ++ with_parts texts rest ≡ all ++ with_parts texts nodes
put_element all texts node nodes rest next h =
    append_assoc all (Some node ∷ []) (with_parts texts rest) ∙ ap (λ xs. all ++ xs) (sym (element_apart texts node rest h) ∙ ap (with_parts texts) (sym next))

-- ---- elements

-- elements that are done, and those of further groups
abbrev pub heads_after : ℕ → ℕ → List Node → List (List Node) → List Node
heads_after notes line [] groups = heads_of notes line groups
heads_after notes line (head ∷ heads) groups = head ∷ heads ++ map (classifier_node line) groups

-- the first head is a term
pub first_head : (notes line : ℕ) (heads made group : List Node) (groups : List (List Node)) → heads ≡ [] → made ≡ heads ++ element_of Term (counting notes) group line ∷ [] → heads_after notes line made groups ≡ heads_after notes line heads (group ∷ groups)
first_head notes line [] made group groups none same = ap (λ ds. heads_after notes line ds groups) same
first_head notes line (d ∷ ds) made group groups none same = absurd (cc)

-- and any other a classifier
pub further_head : (notes line : ℕ) (heads made group : List Node) (groups : List (List Node)) → (length heads == 0) ≡ false → made ≡ heads ++ classifier_node line group ∷ [] → heads_after notes line made groups ≡ heads_after notes line heads (group ∷ groups)
further_head notes line [] made group groups some same = absurd (cc)
further_head notes line (d ∷ ds) made group groups some same =
    ap (λ es. heads_after notes line es groups) same ∙ ap (λ es. d ∷ es) (append_assoc ds (classifier_node line group ∷ []) (map (classifier_node line) groups))

-- a group that is ended
pub group_ended : (group : List Node) (rest : List (Option Node)) → ended_groups (map Some group ++ None ∷ rest) ≡ group ∷ ended_groups rest
group_ended [] rest = refl
group_ended (n ∷ ns) rest = ap (led n) (group_ended ns rest)

-- one that isn't
pub group_open : (group : List Node) → ended_groups (map Some group ++ []) ≡ []
group_open [] = refl
group_open (n ∷ ns) = ap (led n) (group_open ns)

-- one more node of a group
pub group_more : (group : List Node) (n : Node) (rest : List (Option Node)) → map Some (group ++ n ∷ []) ++ rest ≡ map Some group ++ Some n ∷ rest
group_more [] n rest = refl
group_more (m ∷ ms) n rest = ap (λ xs. Some m ∷ xs) (group_more ms n rest)

-- no node is left
pub heads_done : (notes line : ℕ) (heads : List Node) → heads_after notes line heads [] ≡ heads
heads_done notes line [] = refl
heads_done notes line (d ∷ ds) = ap (λ es. d ∷ es) (append-nil ds)
