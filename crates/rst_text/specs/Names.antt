-- Names and ids of texts (Markup Specification, 'Reference Names'; Directives, 'Identifier Normalization'; Document Tree,
-- attributes `names` and `ids`).
use Rattle.std.specs.Prelude.{ℕ, Bool, not, ◌||◌, ◌==◌, if◌then◌else◌, List, drop, map, filter, encode_utf8_all}
use Rattle.std.specs.Char.{is_ascii, is_ascii_digit, is_ascii_lowercase}
use Rattle.std.specs.List.{join_with_byte, list_all, prefix_len, slice_split}
use Rattle.std.specs.Str.{chars}
use Rattle.unicode.specs.CaseFolding.{simple_fold}
use Rattle.unicode_normalization.specs.Forms.{nfkd}
use Rattle.rst_text.specs.Block.{is_blank}
use Rattle.rst_text.specs.Characters.{is_white}

-- the parts of a text between the characters that pass a test, without the empty ones
abbrev pub parts_between : (ℕ → Bool) → List ℕ → List (List ℕ)
parts_between separates text = filter (λ (part : List ℕ). not (is_blank part)) (slice_split separates text)

-- the words of a text: its longest runs of characters that aren't white
abbrev pub words_of : List ℕ → List (List ℕ)
words_of text = parts_between is_white text

-- each run of white characters as one space, and none at the ends
unfoldable pub normalized_white : List ℕ → List ℕ
normalized_white text = join_with_byte 32 (words_of text)

-- the same by simple case folding, where the standard has lowercase: how reference names are compared
unfoldable pub name_of : List ℕ → List ℕ
name_of text = map simple_fold (normalized_white text)

-- one of a to z and 0 to 9: what is between the hyphens of an id
unfoldable pub is_id_char : ℕ → Bool
is_id_char c = is_ascii_lowercase c || is_ascii_digit c

-- a digit or a hyphen: what an id doesn't begin with
unfoldable pub is_no_start : ℕ → Bool
is_no_start c = is_ascii_digit c || c == 45

-- what is left from the first character on that fails the test
abbrev pub skip_while : (ℕ → Bool) → List ℕ → List ℕ
skip_while passes text = drop (prefix_len passes text) text

-- Decomposed characters as an identifier: the longest runs of a to z and 0 to 9 among those that are ASCII, joined by
-- hyphens, without digits and hyphens at the front.
unfoldable pub identifier_of : List ℕ → List ℕ
identifier_of cs = skip_while is_no_start (join_with_byte 45 (parts_between (λ c. not (is_id_char c)) (filter is_ascii cs)))

-- The id that a text gives: its name, decomposed (NFKD), as an identifier. A name in ASCII is already decomposed.
unfoldable pub id_of : List ℕ → List ℕ
id_of text = let name = name_of text in identifier_of (if list_all is_ascii name then name else nfkd name)

-- the name that a text in UTF-8 gives
abbrev pub name_in : List ℕ → List ℕ
name_in text = encode_utf8_all (name_of (chars text))

-- the id that a text in UTF-8 gives; the empty text gives the empty id, which is none
abbrev pub identifier : List ℕ → List ℕ
identifier text = encode_utf8_all (id_of (chars text))
