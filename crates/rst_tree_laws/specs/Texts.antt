-- What the texts of nodes consist of (Document Tree).
use Rattle.std.specs.Prelude.{◌≡◌, ℕ, Bool, true, false, ◌&&◌, ◌||◌, ◌==◌, nat_le, nat_lt, not, List, encode_utf8_all}
use Rattle.std.specs.List.{AllByRecursion}
use Rattle.std.specs.Option.{IfSome}
use Rattle.std.specs.Char.{IsScalar}
use Rattle.unicode.specs.CaseFolding.{simple_fold}
use Rattle.rst_text.specs.Block.{Line, Block}
use Rattle.rst_text.specs.Characters.{Text}
use Rattle.rst_text.specs.Lines.{is_line_end}
use Rattle.rst_tree.specs.declared.attrs.Attr.{Attr}
use Rattle.rst_tree.specs.declared.attrs.Value.{Value}
use Rattle.rst_tree.specs.declared.attrs.Value.TheVariants.{Text as TextValue}
use Rattle.rst_tree.specs.declared.key.Key.{Key}
use Rattle.rst_tree.specs.declared.key.Key.TheVariants.{Alt, OwnName, Rawsource, Refname}
use Rattle.rst_tree.specs.declared.node.Node.{Node}
use Rattle.rst_tree.specs.declared.node.Node.TheVariants.{Element, Text as Words}
use Rattle.rst_tree.specs.declared.note.Note.{Note}
use Rattle.rst_tree.specs.Forest.{Forest, bare, element, words}

-- ---- texts

-- each character passes a test
abbrev pub Kept : (ℕ → Bool) → Text → Type 0
Kept P cs = AllByRecursion (λ c. P c ≡ true) cs

-- these are the bytes of characters that pass it
abbrev pub Spells : (ℕ → Bool) → List ℕ → Type 0
Spells P t = (cs : Text) × (t ≡ encode_utf8_all cs) × Kept P cs

-- each character of each line passes it
abbrev pub BlockKept : (ℕ → Bool) → Block → Type 0
BlockKept P B = AllByRecursion (λ (l : Line). Kept P l.text) B

-- the characters of which fixed texts consist: LF, and those that ASCII prints
abbrev pub is_fixed : ℕ → Bool
is_fixed c = nat_le c 126 && (nat_le 32 c || c == 10)

-- A test that fixed texts pass and, with a character, what it folds to. Only scalar values pass it.
pub record Suits (P : ℕ → Bool) : Type 0 where
  pub fixed : (c : ℕ) → is_fixed c ≡ true → P c ≡ true
  pub folds : (c : ℕ) → P c ≡ true → P (simple_fold c) ≡ true
  pub scalar : (c : ℕ) → P c ≡ true → IsScalar c

-- ---- trees whose texts have a property

-- The transforms make texts of the values of these attributes: a reference that fails is shown by its source, messages quote names, and a table of
-- contents shows an image by its alternate text.
abbrev pub becomes_text : Key → Bool
becomes_text Alt = true
becomes_text OwnName = true
becomes_text Rawsource = true
becomes_text Refname = true
becomes_text _ = false

-- the value of an attribute has the property, if it becomes a text
abbrev pub ValueHas : (List ℕ → Type 0) → Bool → Value → Type 0
ValueHas T true (TextValue t) = T t
ValueHas T _ _ = Unit {0}

-- each value of some attributes that becomes a text has it
abbrev pub AttrsHave : (List ℕ → Type 0) → List Attr → Type 0
AttrsHave T attrs = AllByRecursion (λ (a : Attr). ValueHas T (becomes_text a.key) a.value) attrs

-- each text of some nodes has it, and each value that becomes a text
abbrev pub TextsHave : (List ℕ → Type 0) → Forest → Type 0
TextsHave T bare = Unit {0}
TextsHave T (element t a c l r) = AttrsHave T a × TextsHave T c × TextsHave T r
TextsHave T (words t r) = T t × TextsHave T r

abbrev pub NodeHas : (List ℕ → Type 0) → Node → Type 0
NodeHas T (Element t a c l) = AttrsHave T a × TextsHave T c
NodeHas T (Words t) = T t

abbrev pub NodesHave : (List ℕ → Type 0) → List Node → Type 0
NodesHave T ns = AllByRecursion (NodeHas T) ns

-- the text of each message, and the lines that it quotes
abbrev pub NotesHave : (List ℕ → Type 0) → List Note → Type 0
NotesHave T notes = AllByRecursion (λ (n : Note). T n.text × IfSome n.block T) notes

-- a scalar value
abbrev pub is_scalar : ℕ → Bool
is_scalar c = nat_lt c 0xD800 || (nat_lt 0xDFFF c && nat_lt c 0x110000)

-- a text character: a scalar value that ends no line, or LF
abbrev pub is_text_character : ℕ → Bool
is_text_character c = is_scalar c && (c == 10 || not (is_line_end c))
