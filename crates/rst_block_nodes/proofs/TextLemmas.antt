-- Characters and the texts that they spell.
use Rattle.std.proofs.Common.{◌≡◌, ℕ, List, [], ◌∷◌, map, refl, ap₂}
use Rattle.std.specs.Prelude.{string_bytes, encode_utf8_all}
use Rattle.std.specs.declared.string.String.{String}
use Rattle.rst_text.proofs.TextLemmas.{bytes_encoded}
use Rattle.rst_text.specs.Text.{chars_of}

-- texts are the bytes of their characters
pub listed_bytes : {A : Type 0} (texts : List (String A)) → map string_bytes texts ≡ map encode_utf8_all (map chars_of texts)
listed_bytes [] = refl
listed_bytes (s ∷ texts) = ap₂ (λ (t : List ℕ) (ts : List (List ℕ)). t ∷ ts) (bytes_encoded s) (listed_bytes texts)
