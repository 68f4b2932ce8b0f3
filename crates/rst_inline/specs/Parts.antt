-- The characters of pieces of inline markup (Markup Specification, 'Inline Markup').
use Rattle.std.specs.Prelude.{ℕ, ◌+◌, List, [], ◌∷◌, length, take, drop, encode_utf8, encode_utf8_all}
use Rattle.rst_text.specs.Characters.{Text}
use Rattle.rst_inline_scan.specs.declared.piece.Piece.{Piece}

-- the characters from a place on, up to another place
abbrev pub part : Text → ℕ → ℕ → Text
part t low high = drop low (take high t)

-- a piece as it is written
abbrev pub source : Text → Piece → Text
source t p = part t p.from p.to

-- what its markup encloses
abbrev pub content : Text → Piece → Text
content t p = part t p.content_from p.content_to

-- the bytes of a text
abbrev pub text_bytes : Text → List ℕ
text_bytes cs = encode_utf8_all cs

-- the byte at which each character begins, counted from a byte on, and after them the end; no rule of markup: a text is cut by its bytes
abbrev pub starts_of : ℕ → Text → List ℕ
starts_of at [] = at ∷ []
starts_of at (c ∷ cs) = at ∷ starts_of (at + length (encode_utf8 c)) cs
