-- The bytes of a text, and the texts of a list, however they are stored. No rule of markup: the standard speaks of texts as
-- they read.
use Rattle.std.specs.Prelude.{ℕ, List, ◌∷◌, [], string_bytes}
use Rattle.rst_tree.specs.Phrases.{phrase_text}
use Rattle.rst_tree.specs.declared.text.TextStorage.{TextStorage}
use Rattle.rst_tree.specs.declared.text.TextStorage.TheVariants.{Short, Phrase, Long}
use Rattle.rst_tree.specs.declared.text.TextListStorage.{TextListStorage}
use Rattle.rst_tree.specs.declared.text.TextListStorage.TheVariants.{Lone, List as Listed}

-- the bytes of a text that lies in the value itself, of a phrase, or of a text that has memory of its own
abbrev pub stored_bytes : TextStorage → List ℕ
stored_bytes (Short alloc text) = text.bytes
stored_bytes (Phrase alloc phrase) = phrase_text phrase
stored_bytes (Long string) = string_bytes string

-- the one text that lies in the value itself, or those that have memory of their own
abbrev pub stored_texts : TextListStorage → List (List ℕ)
stored_texts (Lone alloc text) = text ∷ []
stored_texts (Listed list) = list.items
