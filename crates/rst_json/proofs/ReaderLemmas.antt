-- What the reader makes of the JSON of a tree.
use Rattle.std.proofs.Common.{◌≡◌, ℕ, ◌+◌, ◌*◌, ◌/◌, ◌%◌, ◌^◌, ◌<◌, List, [], ◌∷◌, ◌++◌, length, Bool, true, false, not, cond, nat_lt, ◌==◌, if◌then◌else◌, Some, map, All, decimal, refl, sym, ap, ◌∙◌, append_assoc, append-nil, zero-add, arith, eqb-true, ne_eqb, lt-ltb, ltb-true, suc, codes, flat_map}
use Rattle.std.proofs.lemmas.Fmt.{decimal_is_IsNumeral}
use Rattle.std.proofs.lemmas.Str.{digit_value-digit_char}
use Rattle.std.proofs.lemmas.Str.Parse.{digit_from_value}
use Rattle.std.specs.Char.{digit_value, is_digit}
use Rattle.std.specs.Str.Parse.{AllDigits, digits_value, digits_value_after}
use Rattle.rst_json.specs.Json.{after_comma, control, json_byte, hex, json_attr, json_element, json_member, json_nodes, json_object, json_string, json_value, comma_separated}
use Rattle.rst_json.specs.Reader.{HaveNumbersOf64Bits, Items, HasNumbersOf64Bits, all_with_included_attrs, array, array_end, attrs_read, between, colon, comma, digits, prepended, json_items, led_by_comma, lone_node, node_read, nodes_read, number, object, object_end, with_opening_bracket, quoted, json_tree, included_attrs, string, texts_read, ReadsBack, ShowsOneTree}
use Rattle.rst_json.proofs.NameLemmas.{key_found, tag_found}
use Rattle.rst_tree.specs.declared.attrs.Attr.{Attr}
use Rattle.rst_tree.specs.declared.attrs.Value.{Value}
use Rattle.rst_tree.specs.declared.attrs.Value.TheVariants.{Text, Number, List as Listed}
use Rattle.rst_tree.specs.declared.key.Key.{Key}
use Rattle.rst_tree.specs.declared.node.Node.TheVariants.{Element, Text as Words}
use Rattle.rst_tree.specs.declared.tag.Tag.{Tag}
use Rattle.rst_tree.specs.Attributes.{attr}
use Rattle.rst_tree.specs.Forest.{Forest, bare, element, words}
use Rattle.rst_tree.specs.KeyNames.{key_name}
use Rattle.rst_tree.specs.Print.{is_left_out}
use Rattle.rst_tree.specs.TagNames.{tag_name}

-- ---- strings

hex_read : (d : ℕ) → d < 16 → digit_value (hex d) ≡ d
hex_read d fits = digit_value-digit_char d (omega arith)

control_read : (b : ℕ) (s rest : List ℕ) (e : Bool) → nat_lt b 32 ≡ true → (b == 10) ≡ e
    → json_items (quoted s) ((if e then codes "\\n" else codes "\\u00" ++ (hex (b / 16) ∷ hex (b % 16) ∷ [])) ++ rest) ≡ json_items (quoted (s ++ b ∷ [])) rest
control_read b s rest true small is = let e : b ≡ 10 = eqb-true b 10 is in rw e refl
control_read b s rest false small is =
    let below : b < 32 = ltb-true b 32 small in
    rw (hex_read (b / 16) (omega arith), hex_read (b % 16) (omega arith)) (ap (λ z. json_items (quoted (s ++ z ∷ [])) rest) (omega arith))

byte_read : (b : ℕ) (s rest : List ℕ) (q k l : Bool) → (b == 34) ≡ q → (b == 92) ≡ k → nat_lt b 32 ≡ l
    → json_items (quoted s) ((if q then 92 ∷ 34 ∷ [] else (if k then 92 ∷ 92 ∷ [] else (if l then control b else b ∷ []))) ++ rest) ≡ json_items (quoted (s ++ b ∷ [])) rest
byte_read b s rest true k l e f g = let is : b ≡ 34 = eqb-true b 34 e in rw is refl
byte_read b s rest false true l e f g = let is : b ≡ 92 = eqb-true b 92 f in rw is refl
byte_read b s rest false false true e f g = control_read b s rest (b == 10) g refl
byte_read b s rest false false false e f g = rw (e, f) refl

bytes_read : (t s rest : List ℕ) → json_items (quoted s) (flat_map json_byte t ++ rest) ≡ json_items (quoted (s ++ t)) rest
bytes_read [] s rest = rw (append-nil s) refl
bytes_read (b ∷ t) s rest =
    ap (json_items (quoted s)) (append_assoc (json_byte b) (flat_map json_byte t) rest)
    ∙ byte_read b s (flat_map json_byte t ++ rest) (b == 34) (b == 92) (nat_lt b 32) refl refl refl
    ∙ bytes_read t (s ++ b ∷ []) rest ∙ ap (λ z. json_items (quoted z) rest) (append_assoc s (b ∷ []) t)

string_read : (t rest : List ℕ) → json_items between (json_string t ++ rest) ≡ prepended (string t) (json_items between rest)
string_read t rest = ap (json_items (quoted [])) (append_assoc (flat_map json_byte t) (34 ∷ []) rest) ∙ bytes_read t [] (34 ∷ rest)

-- ---- numbers

-- a text begins with a byte that ends a number
abbrev Ends : List ℕ → Type 0
Ends [] = ⊥
Ends (b ∷ bs) = ((b == 34) ≡ false) × (is_digit b 10 ≡ false)

digits_read : (ds rest : List ℕ) (n : ℕ) → AllDigits 10 ds → Ends rest
    → json_items (digits n) (ds ++ rest) ≡ prepended (number (digits_value_after 10 n ds)) (json_items between rest)
digits_read [] [] n all ends = absurd ends
digits_read [] (b ∷ rest) n all ends = rw (ends.0, ends.1) refl
digits_read (d ∷ ds) rest n all ends = rw (lt-ltb (digit_value d) 10 all.0) (digits_read ds rest (n * 10 + digit_value d) all.1 ends)

numeral_read : (ds rest : List ℕ) → 0 < length ds → AllDigits 10 ds → Ends rest
    → json_items between (ds ++ rest) ≡ prepended (number (digits_value 10 ds)) (json_items between rest)
numeral_read [] rest some all ends = absurd (omega arith)
numeral_read (d ∷ ds) rest some all ends =
    let other : (d == 34) ≡ false = ne_eqb d 34 (λ e. omega (arith, digit_from_value d all.0)) in
    rw (other, lt-ltb (digit_value d) 10 all.0, zero-add (digit_value d)) (digits_read ds rest (digit_value d) all.1 ends)

number_read : (n : ℕ) (rest : List ℕ) → n < 2 ^ 64 → Ends rest → json_items between (decimal n ++ rest) ≡ prepended (number n) (json_items between rest)
number_read n rest fits ends =
    let spelled = decimal_is_IsNumeral n fits in
    numeral_read (decimal n) rest spelled.0.0 spelled.0.1 ends ∙ ap (λ z. prepended (number z) (json_items between rest)) spelled.1

-- ---- arrays and objects

-- each of a list
abbrev Each : {X : Type 0} → (X → Type 0) → List X → Type 0
Each P [] = Unit {0}
Each P (x ∷ xs) = P x × Each P xs

each_of : {X : Type 0} (P : X → Type 0) (xs : List X) → All P xs → Each P xs
each_of P [] all = tt
each_of P (x ∷ xs) all = (all 0 x (omega arith), each_of P xs (λ k d fits. all (suc k) d (omega arith)))

-- items before the rest, each after a comma
abbrev chained : {X : Type 0} → (X → Items → Items) → List X → Items → Items
chained item [] end = end
chained item (x ∷ xs) end = comma (item x (chained item xs end))

-- the text of an item is read as the item
abbrev IsRead : {X : Type 0} → (X → List ℕ) → (X → Items → Items) → X → Type 0
IsRead text item x = (rest : List ℕ) → Ends rest → json_items between (text x ++ rest) ≡ prepended (item x) (json_items between rest)

module _ {X : Type 0} (text : X → List ℕ) (item : X → Items → Items) (c : ℕ) (rest : List ℕ) (end : Items) (outer : List Items)
    (ends : Ends (c ∷ rest)) (is : json_items between (c ∷ rest) ≡ end ∷ outer) where
  ends_more : (xs : List X) → Ends (flat_map after_comma (map text xs) ++ c ∷ rest)
  ends_more [] = ends
  ends_more (x ∷ xs) = (refl, refl)

  more_read : (xs : List X) → Each (IsRead text item) xs → json_items between (flat_map after_comma (map text xs) ++ c ∷ rest) ≡ chained item xs end ∷ outer
  more_read [] each = is
  more_read (x ∷ xs) each =
      ap (λ z. prepended comma (json_items between z)) (append_assoc (text x) (flat_map after_comma (map text xs)) (c ∷ rest))
      ∙ ap (prepended comma) (each.0 (flat_map after_comma (map text xs) ++ c ∷ rest) (ends_more xs) ∙ ap (prepended (item x)) (more_read xs each.1))

  bracketed_read : (bracket : Items → Items → Items) (xs : List X) → Each (IsRead text item) xs → led_by_comma end ≡ end → ((x : X) (z : Items) → led_by_comma (item x z) ≡ comma (item x z))
      → with_opening_bracket bracket (json_items between (comma_separated (map text xs) ++ c ∷ rest)) ≡ prepended (bracket (chained item xs end)) outer
  bracketed_read bracket [] each last leads = ap (with_opening_bracket bracket) is ∙ ap (λ z. prepended (bracket z) outer) last
  bracketed_read bracket (x ∷ xs) each last leads =
      ap (λ z. with_opening_bracket bracket (json_items between z)) (append_assoc (text x) (flat_map after_comma (map text xs)) (c ∷ rest))
      ∙ ap (with_opening_bracket bracket) (each.0 (flat_map after_comma (map text xs) ++ c ∷ rest) (ends_more xs) ∙ ap (prepended (item x)) (more_read xs each.1))
      ∙ ap (λ z. prepended (bracket z) outer) (leads x (chained item xs end))

-- ---- attributes

each_string : (ts : List (List ℕ)) → Each (IsRead json_string string) ts
each_string [] = tt
each_string (t ∷ ts) = (λ rest ends. string_read t rest, each_string ts)

texts_read_back : (ts : List (List ℕ)) → texts_read (chained string ts array_end) ≡ Some ts
texts_read_back [] = refl
texts_read_back (t ∷ ts) = rw (texts_read_back ts) refl

abbrev value_item : Value → Items → Items
value_item (Text text) rest = string text rest
value_item (Number n) rest = number n rest
value_item (Listed texts) rest = array (chained string texts array_end) rest

value_read : (v : Value) (rest : List ℕ) → HasNumbersOf64Bits v → Ends rest → json_items between (json_value v ++ rest) ≡ prepended (value_item v) (json_items between rest)
value_read (Text text) rest within ends = string_read text rest
value_read (Number n) rest within ends = number_read n rest within ends
value_read (Listed texts) rest within ends =
    ap (λ z. with_opening_bracket array (json_items between z)) (append_assoc (comma_separated (map json_string texts)) (93 ∷ []) rest)
    ∙ bracketed_read json_string string 93 rest array_end (json_items between rest) (refl, refl) refl array texts (each_string texts) refl (λ x z. refl)

abbrev attr_text : Attr → List ℕ
attr_text a = json_member (key_name a.key) (json_value a.value)

abbrev attr_item : Attr → Items → Items
attr_item a rest = string (key_name a.key) (colon (value_item a.value rest))

both_prepended : (item other : Items → Items) (items : List Items) → prepended item (prepended other items) ≡ prepended (λ z. item (other z)) items
both_prepended item other [] = refl
both_prepended item other (inner ∷ outer) = refl

attr_is_read : (a : Attr) → HasNumbersOf64Bits a.value → IsRead attr_text attr_item a
attr_is_read a within rest ends =
    ap (json_items between) (append_assoc (json_string (key_name a.key)) (58 ∷ json_value a.value) rest)
    ∙ string_read (key_name a.key) (58 ∷ (json_value a.value ++ rest))
    ∙ ap (λ z. prepended (string (key_name a.key)) (prepended colon z)) (value_read a.value rest within ends)
    ∙ ap (prepended (string (key_name a.key))) (both_prepended colon (value_item a.value) (json_items between rest))
    ∙ both_prepended (string (key_name a.key)) (λ z. colon (value_item a.value z)) (json_items between rest)

each_attr : (attrs : List Attr) → Each (λ a. HasNumbersOf64Bits a.value) attrs → Each (IsRead attr_text attr_item) (included_attrs attrs)
each_attr [] each = tt
each_attr (a ∷ attrs) each = elim (is_left_out a) as (λ b. Each (IsRead attr_text attr_item) (cond (not b) (a ∷ included_attrs attrs) (included_attrs attrs))) [
  | true ↦ each_attr attrs each.1
  | false ↦ (attr_is_read a each.0, each_attr attrs each.1)
]

included_texts : (attrs : List Attr) → flat_map json_attr attrs ≡ map attr_text (included_attrs attrs)
included_texts [] = refl
included_texts (a ∷ attrs) =
    ap (λ z. json_attr a ++ z) (included_texts attrs)
    ∙ elim (is_left_out a) as (λ b. (if b then [] else attr_text a ∷ []) ++ map attr_text (included_attrs attrs) ≡ map attr_text (cond (not b) (a ∷ included_attrs attrs) (included_attrs attrs))) [
      | true ↦ refl
      | false ↦ refl
    ]

object_read : (attrs : List Attr) (rest : List ℕ) → All (λ a. HasNumbersOf64Bits a.value) attrs
    → json_items between (json_object (flat_map json_attr attrs) ++ rest) ≡ prepended (object (chained attr_item (included_attrs attrs) object_end)) (json_items between rest)
object_read attrs rest all =
    rw (included_texts attrs)
    (ap (λ z. with_opening_bracket object (json_items between z)) (append_assoc (comma_separated (map attr_text (included_attrs attrs))) (125 ∷ []) rest)
    ∙ bracketed_read attr_text attr_item 125 rest object_end (json_items between rest) (refl, refl) refl object (included_attrs attrs)
    (each_attr attrs (each_of (λ a. HasNumbersOf64Bits a.value) attrs all)) refl (λ x z. refl))

attr_read_back : (k : Key) (v : Value) (attrs : List Attr) (more : Items) → attrs_read more ≡ Some attrs
    → attrs_read (comma (string (key_name k) (colon (value_item v more)))) ≡ Some (attr k v ∷ attrs)
attr_read_back k (Text text) attrs more is = rw (key_found k, is) refl
attr_read_back k (Number n) attrs more is = rw (key_found k, is) refl
attr_read_back k (Listed texts) attrs more is = rw (key_found k, is, texts_read_back texts) refl

attrs_read_back : (attrs : List Attr) → attrs_read (chained attr_item attrs object_end) ≡ Some attrs
attrs_read_back [] = refl
attrs_read_back (a ∷ attrs) = attr_read_back a.key a.value attrs (chained attr_item attrs object_end) (attrs_read_back attrs)

-- ---- nodes

abbrev element_item : Tag → List Attr → ℕ → Items → Items
element_item t attrs line inside = comma (string (tag_name t) (comma (number line (comma (object (chained attr_item (included_attrs attrs) object_end) inside)))))

abbrev nodes_items : Forest → Items → Items
nodes_items bare rest = rest
nodes_items (element t attrs inside line more) rest = comma (array (element_item t attrs line (nodes_items inside array_end)) (nodes_items more rest))
nodes_items (words text more) rest = comma (string text (nodes_items more rest))

element_text : (name line attrs nodes rest : List ℕ)
    → (codes "[" ++ name ++ codes "," ++ line ++ codes "," ++ attrs ++ nodes ++ codes "]") ++ rest ≡ 91 ∷ (name ++ 44 ∷ (line ++ 44 ∷ (attrs ++ (nodes ++ 93 ∷ rest))))
element_text name line attrs nodes rest = simp append_assoc

element_is_read : (t : Tag) (attrs : List Attr) (line : ℕ) (nodes : List ℕ) (inside : Items) (rest : List ℕ) → line < 2 ^ 64 → All (λ a. HasNumbersOf64Bits a.value) attrs
    → json_items between (nodes ++ 93 ∷ rest) ≡ inside ∷ json_items between rest
    → json_items between (json_element t attrs line nodes ++ rest) ≡ prepended (array (element_item t attrs line inside)) (json_items between rest)
element_is_read t attrs line nodes inside rest fits all is =
    let members = json_object (flat_map json_attr attrs) in
    let following = members ++ (nodes ++ 93 ∷ rest) in
    let object_is : json_items between following ≡ object (chained attr_item (included_attrs attrs) object_end) inside ∷ json_items between rest =
    object_read attrs (nodes ++ 93 ∷ rest) all ∙ ap (prepended (object (chained attr_item (included_attrs attrs) object_end))) is in
    let line_is : json_items between (decimal line ++ 44 ∷ following) ≡ number line (comma (object (chained attr_item (included_attrs attrs) object_end) inside)) ∷ json_items between rest =
    number_read line (44 ∷ following) fits (refl, refl) ∙ ap (λ z. prepended (number line) (prepended comma z)) object_is in
    let tag_is : json_items between (json_string (tag_name t) ++ 44 ∷ (decimal line ++ 44 ∷ following))
    ≡ string (tag_name t) (comma (number line (comma (object (chained attr_item (included_attrs attrs) object_end) inside)))) ∷ json_items between rest =
    string_read (tag_name t) (44 ∷ (decimal line ++ 44 ∷ following)) ∙ ap (λ z. prepended (string (tag_name t)) (prepended comma z)) line_is in
    let text_is : json_element t attrs line nodes ++ rest ≡ 91 ∷ (json_string (tag_name t) ++ 44 ∷ (decimal line ++ 44 ∷ following)) =
    element_text (json_string (tag_name t)) (decimal line) members nodes rest in
    ap (json_items between) text_is ∙ ap (with_opening_bracket array) tag_is

nodes_are_read : (f : Forest) (rest : List ℕ) (end : Items) (outer : List Items) → HaveNumbersOf64Bits f → json_items between rest ≡ end ∷ outer
    → json_items between (json_nodes f ++ rest) ≡ nodes_items f end ∷ outer
nodes_are_read bare rest end outer within is = is
nodes_are_read (words text more) rest end outer within is =
    ap (λ z. prepended comma (json_items between z)) (append_assoc (json_string text) (json_nodes more) rest)
    ∙ ap (prepended comma) (string_read text (json_nodes more ++ rest) ∙ ap (prepended (string text)) (nodes_are_read more rest end outer within is))
nodes_are_read (element t attrs inside line more) rest end outer within is =
    let this = json_element t attrs line (json_nodes inside) in
    let follows = json_nodes more ++ rest in
    ap (λ z. prepended comma (json_items between z)) (append_assoc this (json_nodes more) rest)
    ∙ ap (prepended comma) (
    element_is_read t attrs line (json_nodes inside) (nodes_items inside array_end) follows within.0 within.1
    (nodes_are_read inside (93 ∷ follows) array_end (json_items between follows) within.2 refl)
    ∙ ap (prepended (array (element_item t attrs line (nodes_items inside array_end)))) (nodes_are_read more rest end outer within.3 is))

nodes_read_back : (f : Forest) → nodes_read (nodes_items f array_end) ≡ Some (all_with_included_attrs f)
nodes_read_back bare = refl
nodes_read_back (words text more) = rw (nodes_read_back more) refl
nodes_read_back (element t attrs inside line more) = rw (tag_found t, attrs_read_back (included_attrs attrs), nodes_read_back inside, nodes_read_back more) refl

pub reads_back : ReadsBack
reads_back (Element t attrs inside line) within =
    ap node_read (element_is_read t attrs line (json_nodes inside) (nodes_items inside array_end) (93 ∷ []) within.0 within.1
    (nodes_are_read inside (93 ∷ 93 ∷ []) array_end (array_end ∷ []) within.2 refl))
    ∙ ap lone_node (nodes_read_back (element t attrs inside line bare))
reads_back (Words text) within = ap node_read (string_read text (93 ∷ []))

some_one : {A : Type 0} (a b : A) → Some a ≡ Some b → a ≡ b
some_one a b e = cc

pub shows_one_tree : ShowsOneTree
shows_one_tree node other within fits same = some_one _ _ (sym (reads_back node within) ∙ ap json_tree same ∙ reads_back other fits)
