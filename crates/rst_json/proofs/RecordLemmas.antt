-- Records that are put piece by piece.
use Rattle.std.proofs.Common.{◌≡◌, ℕ, Bool, ◌+◌, ◌≤◌, List, [], ◌∷◌, ◌++◌, length, take, drop, None, refl, sym, ap, ap₂, ◌∙◌, append_assoc, length-append, drop_at, take_at, arith}
use Rattle.std.proofs.lemmas.List.{take_all}
use Rattle.std.specs.List.{flat_map}
use Rattle.rst_json.specs.Records.{attr_record_of, node_record_of, node_records, sized, word}
use Rattle.rst_tree.specs.declared.attrs.Attr.{Attr}
use Rattle.rst_tree.specs.declared.node.Node.{Node}
use Rattle.rst_tree.specs.declared.node.Node.TheVariants.{Element, Text}
use Rattle.rst_tree.specs.declared.tag.Tag.{Tag}
use Rattle.rst_tree.specs.Forest.{Forest}
use Rattle.rst_tree.specs.Nodes.{forest_of}
use Rattle.rst_tree.specs.PrintedAttributes.{all_with_printed_attrs, printed_attrs, with_printed_attrs}
use Rattle.rst_tree.specs.TagNames.{tag_name}

-- bytes that were put after eight others, which then give how many they are
pub sealed : (old body out new : List ℕ) (start : ℕ) → start ≡ length old → out ≡ (old ++ word 0) ++ body
    → new ≡ take start out ++ sized (drop (start + 8) out) → new ≡ old ++ sized body
sealed old body out new start begins is tells =
    tells
    ∙ ap₂ (λ x y. x ++ sized y)
    (ap (take start) (is ∙ append_assoc old (word 0) body) ∙ take_at old (word 0 ++ body) start (sym begins))
    (ap (drop (start + 8)) is ∙ drop_at (old ++ word 0) body (start + 8) (omega (arith, length-append old (word 0))))

-- nodes, node by node
records_one_by_one : (hidden : Bool) (ns : List Node) → node_records hidden (all_with_printed_attrs None (forest_of ns)) ≡ flat_map (λ n. node_record_of hidden (with_printed_attrs None n)) ns
records_one_by_one hidden [] = refl
records_one_by_one hidden (Element t a c l ∷ ns) = rw (records_one_by_one hidden ns) refl
records_one_by_one hidden (Text t ∷ ns) = rw (records_one_by_one hidden ns) refl

pieces : (o k a b c d : List ℕ) → ((((o ++ k) ++ a) ++ b) ++ c) ++ d ≡ o ++ (k ++ (a ++ b ++ c ++ d))
pieces o k a b c d = simp append_assoc

-- an element, piece by piece
pub element_put : (hidden : Bool) (node : Node) (old name : List ℕ) (t : Tag) (a : List Attr) (c : Forest) (l : ℕ) (ns : List Node) (i : ℕ)
    → node ≡ Element t a c l → c ≡ forest_of ns → length ns ≤ i → name ≡ tag_name t
    → (body : List ℕ) × (node_record_of hidden (with_printed_attrs None node) ≡ sized body)
    × (((((old ++ 1 ∷ []) ++ word l) ++ sized name) ++ sized (flat_map (attr_record_of hidden) (printed_attrs None t a l))) ++ flat_map (λ n. node_record_of hidden (with_printed_attrs None n)) (take i ns) ≡ old ++ body)
element_put hidden node old name t a c l ns i is nodes all named = (
  1 ∷ (word l ++ sized name ++ sized (flat_map (attr_record_of hidden) (printed_attrs None t a l)) ++ flat_map (λ n. node_record_of hidden (with_printed_attrs None n)) ns),
  rw (is, nodes, named, records_one_by_one hidden ns) refl,
  rw (take_all i ns all)
      (pieces old (1 ∷ []) (word l) (sized name) (sized (flat_map (attr_record_of hidden) (printed_attrs None t a l))) (flat_map (λ n. node_record_of hidden (with_printed_attrs None n)) ns)),
)
