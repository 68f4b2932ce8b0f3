-- Where lines may be cut. No rule of markup: a cut that is counted in bytes splits no character.
use Rattle.std.specs.Prelude.{ℕ, ◌^◌, List, drop, length, encode_utf8_all, Bool, ◌||◌, ◌&&◌, nat_le, nat_lt}
use Rattle.std.specs.List.{list_all}
use Rattle.std.specs.Str.{is_utf8}
use Rattle.rst_text.specs.Block.{Line, Block, each_cut, indentation, is_blank}

-- the UTF-8 of a line without its first n bytes; a shorter line leaves nothing
abbrev pub bytes_after : ℕ → Line → List ℕ
bytes_after n l = drop n (encode_utf8_all l.text)

-- the first line may be cut by f bytes, each other by r: what is left of each is text
abbrev pub may_cut_at : ℕ → ℕ → Block → Bool
may_cut_at f r ls = list_all is_utf8 (each_cut bytes_after f r ls)

-- a text has UTF-8, of fewer than 2^63 bytes
abbrev pub is_text : List ℕ → Bool
is_text text = is_utf8 (encode_utf8_all text) && nat_lt (length (encode_utf8_all text)) (2 ^ 63)

-- each line is a text
abbrev pub are_texts : Block → Bool
are_texts ls = list_all (λ (l : Line). is_text l.text) ls

-- each line is blank or indented by n
abbrev pub is_indented : ℕ → Block → Bool
is_indented n ls = list_all (λ (l : Line). is_blank l.text || nat_le n (indentation l.text)) ls
