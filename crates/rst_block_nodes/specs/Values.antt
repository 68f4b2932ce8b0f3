-- Texts as values of attributes (Document Tree, 'Attribute Reference').
use Rattle.std.specs.Prelude.{ℕ, List, map, encode_utf8_all, string_bytes}
use Rattle.std.specs.Str.{chars}
use Rattle.std.specs.declared.string.String.{String}
use Rattle.rst_text.specs.Names as names
use Rattle.rst_text.specs.Escapes as escapes
use Rattle.rst_tree.specs.declared.attrs.Value.{Value}
use Rattle.rst_tree.specs.declared.attrs.Value.TheVariants.{List as Listed}

-- a text with each run of white characters as one space, and none at its ends
abbrev pub normalized : List ℕ → List ℕ
normalized text = encode_utf8_all (names.normalized_white (chars text))

-- a text without its escapes
abbrev pub unescaped : List ℕ → List ℕ
unescaped text = encode_utf8_all (escapes.unescaped (chars text))

-- a value that lists texts
abbrev pub list_of_texts : {A : Type 0} → List (String A) → Value
list_of_texts texts = Listed (map string_bytes texts)
