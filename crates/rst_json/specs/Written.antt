-- Bytes that are written out, for worked examples. No rule of markup.
use Prim.Native.String.{String}
use Rattle.std.specs.Prelude.{ℕ, List, [], ◌∷◌, codes, encode_utf8_all}

-- the bytes of a text
abbrev pub utf8 : String → List ℕ
utf8 text = encode_utf8_all (codes text)

-- a number below 256 in eight bytes, the lowest first
abbrev pub eight : ℕ → List ℕ
eight number = number ∷ 0 ∷ 0 ∷ 0 ∷ 0 ∷ 0 ∷ 0 ∷ 0 ∷ []
