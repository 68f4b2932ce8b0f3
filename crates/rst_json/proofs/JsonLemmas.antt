-- JSON that is put piece by piece.
use Rattle.std.proofs.Common.{◌≡◌, ℕ, ◌+◌, ◌<◌, ◌≤◌, List, [], ◌∷◌, ◌++◌, length, take, drop, get_or, Bool, true, false, None, Result, Ok, Err, refl, sym, ap, ◌∙◌, append_assoc, add-one}
use Rattle.std.proofs.lemmas.List.{flat_map_more, take_more, take_all, take_at}
use Rattle.std.proofs.lemmas.List.Folds.{flat_map-map}
use Rattle.std.specs.Fmt.{decimal}
use Rattle.std.specs.List.{flat_map, list_any}
use Rattle.std.specs.Prelude.{Bool, ◌||◌, ◌==◌, nat_lt, if◌then◌else◌, map, codes}
use Rattle.std.proofs.lemmas.Bool.{or_parts}
use Rattle.rst_json.specs.Json.{Adds, after_comma, control, json_byte, needs_json_escape, json_attr_of, json_block, json_node_of, json_nodes_of, json_note, json_object, json_string, comma_separated}
use Rattle.rst_tree.proofs.PrintedParts.{flat_map-flat_map}
use Rattle.rst_tree.specs.declared.attrs.Attr.{Attr}
use Rattle.rst_tree.specs.declared.node.Node.{Node}
use Rattle.rst_tree.specs.declared.node.Node.TheVariants.{Element, Text}
use Rattle.rst_tree.specs.declared.note.Note.{Note}
use Rattle.rst_tree.specs.declared.tag.Tag.{Tag}
use Rattle.rst_tree.specs.Forest.{Forest}
use Rattle.rst_tree.specs.LevelNames.{level_name, level_number}
use Rattle.rst_tree.specs.Nodes.{forest_of}
use Rattle.rst_tree.specs.PrintedAttributes.{all_with_printed_attrs, printed_attrs, with_printed_attrs}
use Rattle.rst_tree.specs.TagNames.{tag_name}

-- a byte that represents itself
plain_byte : (b : ℕ) (l q s : Bool) → (l || q || s) ≡ false
    → (if q then 92 ∷ 34 ∷ [] else (if s then 92 ∷ 92 ∷ [] else (if l then control b else b ∷ []))) ≡ b ∷ []
plain_byte b true q s h = cc
plain_byte b false true s h = cc
plain_byte b false false true h = cc
plain_byte b false false false h = refl

-- a text of such bytes
pub unescaped : (t : List ℕ) → list_any needs_json_escape t ≡ false → flat_map json_byte t ≡ t
unescaped [] h = refl
unescaped (b ∷ t) h =
    let k = or_parts (needs_json_escape b) (list_any needs_json_escape t) h in rw (plain_byte b (nat_lt b 32) (b == 34) (b == 92) k.0, unescaped t k.1) refl

-- one more item
pub next_item : {X : Type 0} (f : X → List ℕ) (xs : List X) (i : ℕ) (x : X) (start out next : List ℕ) → x ≡ get_or xs i x → i < length xs
    → out ≡ start ++ flat_map f (take i xs) → next ≡ out ++ f x → next ≡ start ++ flat_map f (take (i + 1) xs)
next_item f xs i x start out next at fits so_far adds =
    adds ∙ ap (λ o. o ++ f x) so_far ∙ flat_map_more f start (take i xs) x
    ∙ ap (λ y. start ++ flat_map f (take i xs ++ y ∷ [])) at ∙ ap (λ ys. start ++ flat_map f ys) (sym (take_more xs i x fits))

-- items with a comma before each, whose first comma gives way to a bracket
first_replaced : (items : List (List ℕ)) → drop 1 (flat_map after_comma items) ≡ comma_separated items
first_replaced [] = refl
first_replaced (item ∷ items) = refl

after_prefix : (old xs : List ℕ) → drop (length old + 1) (old ++ xs) ≡ drop 1 xs
after_prefix [] xs = refl
after_prefix (o ∷ old) xs = rw add-one (rw add-one at (after_prefix old xs))

pub enclosed : {A E : Type 0} (items : List (List ℕ)) (old out new : List ℕ) (start left right : ℕ) (result : Result A E)
    → out ≡ old ++ flat_map after_comma items → start ≡ length old
    → Adds (take start out) new (left ∷ (drop (start + 1) out ++ right ∷ [])) result → Adds old new (left ∷ (comma_separated items ++ right ∷ [])) result
enclosed items old out new start left right (Ok done) is begins adds =
    adds ∙ rw (is, begins, take_at old (flat_map after_comma items) (length old) refl, after_prefix old (flat_map after_comma items), first_replaced items) refl
enclosed items old out new start left right (Err fault) is begins adds = tt

-- the items that two loops put
pub items_of_texts : (ts : List (List ℕ)) (i : ℕ) → length ts ≤ i → flat_map (λ t. after_comma (json_string t)) (take i ts) ≡ flat_map after_comma (map json_string ts)
items_of_texts ts i all = rw (take_all i ts all) (sym (flat_map-map after_comma json_string ts))

pub items_of_attrs : (hidden : Bool) (attrs : List Attr) (i : ℕ) → length attrs ≤ i
    → flat_map (λ a. flat_map after_comma (json_attr_of hidden a)) (take i attrs) ≡ flat_map after_comma (flat_map (json_attr_of hidden) attrs)
items_of_attrs hidden attrs i all = rw (take_all i attrs all) (sym (flat_map-flat_map after_comma (json_attr_of hidden) attrs))

-- nodes, node by node
pub nodes_one_by_one : (hidden : Bool) (ns : List Node)
    → json_nodes_of hidden (all_with_printed_attrs None (forest_of ns)) ≡ flat_map (λ n. after_comma (json_node_of hidden (with_printed_attrs None n))) ns
nodes_one_by_one hidden [] = refl
nodes_one_by_one hidden (Element t a c l ∷ ns) = rw (nodes_one_by_one hidden ns) refl
nodes_one_by_one hidden (Text t ∷ ns) = rw (nodes_one_by_one hidden ns) refl

-- an element, piece by piece
pieces : (o a b c d e f g h : List ℕ) → (((((((o ++ a) ++ b) ++ c) ++ d) ++ e) ++ f) ++ g) ++ h ≡ o ++ (a ++ b ++ c ++ d ++ e ++ f ++ g ++ h)
pieces o a b c d e f g h = simp append_assoc

pub element_put : (hidden : Bool) (node : Node) (old name : List ℕ) (t : Tag) (a : List Attr) (c : Forest) (l : ℕ) (ns : List Node) (i : ℕ)
    → node ≡ Element t a c l → c ≡ forest_of ns → length ns ≤ i → name ≡ tag_name t
    → (((((((old ++ 91 ∷ []) ++ json_string name) ++ 44 ∷ []) ++ decimal l) ++ 44 ∷ []) ++ json_object (flat_map (json_attr_of hidden) (printed_attrs None t a l)))
    ++ flat_map (λ n. after_comma (json_node_of hidden (with_printed_attrs None n))) (take i ns)) ++ 93 ∷ [] ≡ old ++ json_node_of hidden (with_printed_attrs None node)
element_put hidden node old name t a c l ns i is nodes all named =
    rw (is, nodes, named, take_all i ns all, ← nodes_one_by_one hidden ns)
    (pieces old (codes "[") (json_string (tag_name t)) (codes ",") (decimal l) (codes ",") (json_object (flat_map (json_attr_of hidden) (printed_attrs None t a l)))
    (json_nodes_of hidden (all_with_printed_attrs None (forest_of ns))) (codes "]"))

-- a message, piece by piece
members : (o a d b e c f g h k z : List ℕ)
    → (((((((((o ++ a) ++ d) ++ b) ++ e) ++ c) ++ f) ++ g) ++ h) ++ k) ++ z ≡ o ++ (((a ++ d) ++ ((b ++ e) ++ ((c ++ f) ++ ((g ++ h) ++ k)))) ++ z)
members o a d b e c f g h k z = simp append_assoc

pub note_put : (note : Note) (old name : List ℕ) (number : ℕ) → name ≡ level_name note.level → number ≡ level_number note.level
    → (((((((((old ++ codes ",{\"line\":") ++ decimal note.line) ++ codes ",\"level\":") ++ decimal number) ++ codes ",\"type\":") ++ json_string name) ++ codes ",\"text\":")
    ++ json_string note.text) ++ flat_map after_comma (json_block note.block)) ++ 125 ∷ [] ≡ old ++ after_comma (json_note note)
note_put note old name number named numbered =
    rw (named, numbered)
    (members old (codes ",{\"line\":") (decimal note.line) (codes ",\"level\":") (decimal (level_number note.level)) (codes ",\"type\":") (json_string (level_name note.level))
    (codes ",\"text\":") (json_string note.text) (flat_map after_comma (json_block note.block)) (125 ∷ []))
