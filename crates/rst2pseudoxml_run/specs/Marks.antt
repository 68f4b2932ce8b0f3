-- What a text must hold for a part of the wider profile to make a difference in it. Texts are in bytes.
use Rattle.std.specs.Prelude.{ℕ, Bool, ◌&&◌, ◌||◌, ◌==◌, ◌-◌, List, [], None, drop, false, if◌then◌else◌, length, not, slice_index, take}
use Rattle.std.specs.Char.{is_ascii_whitespace}
use Rattle.std.specs.List.{after_last, list_any, slice_split, suffix_len, zip}
use Rattle.std.specs.Option.{option_map_or}
use Rattle.std.specs.Str.{str_eq_ignore_ascii_case}
use Rattle.rst_inline.specs.Roles.{is_wider_role}
use Rattle.rst_inline_scan.specs.Mail.{holds_at_sign}
use Rattle.rst_markup_directives.specs.Kind.{is_wider_directive}
use Rattle.rst_settings.specs.Parts.{hands_role, name_lines}
use Rattle.rst_settings.specs.declared.Parts.{Parts}

-- the pieces between colons
abbrev pub by_colons : List ℕ → List (List ℕ)
by_colons text = slice_split (λ b. b == 58) text

-- the mark of `marks`: a colon stands directly before a backquote
abbrev pub holds_role_end : List ℕ → Bool
holds_role_end text = list_any (λ piece. slice_index piece 0 == 96) (drop 1 (by_colons text))

-- the mark of `roles`: what stands between two colons, before the first or after the last, is the name of a wider role
abbrev pub holds_wider_role : List ℕ → Bool
holds_wider_role text = list_any is_wider_role (by_colons text)

-- the last word of a text, without the white space after it
abbrev pub last_word : List ℕ → List ℕ
last_word text = after_last is_ascii_whitespace (take (length text - suffix_len is_ascii_whitespace text) text)

-- that is the name of a wider directive
abbrev pub ends_with_directive : List ℕ → Bool
ends_with_directive text = is_wider_directive (last_word text)

-- the mark of `directives`: such a word stands before a colon that is the last or has another directly after it
abbrev pub holds_wider_directive : List ℕ → Bool
holds_wider_directive text = let pieces = by_colons text in list_any (λ pair. length pair.1 == 0 && ends_with_directive pair.0) (zip pieces (drop 1 pieces))

-- the mark of `keywords`: a dollar sign stands in it
abbrev pub holds_dollar_sign : List ℕ → Bool
holds_dollar_sign text = list_any (λ b. b == 36) text

-- a word is a part of a name, between colons
abbrev pub is_part : List ℕ → List ℕ → Bool
is_part name word = list_any (λ part. str_eq_ignore_ascii_case part word) (by_colons name)

-- a word is a part of one of some names, each of which is a line
abbrev pub is_part_of_one : List ℕ → List ℕ → Bool
is_part_of_one names word = list_any (λ name. is_part name word) (name_lines names)

-- the same of a word that isn't empty
abbrev pub has_part : List ℕ → List ℕ → Bool
has_part names word = not (length word == 0) && is_part_of_one names word

-- one of some names may stand at a colon between two texts: that of a directive before two colons, or that of a role between a colon and a backquote
abbrev pub may_name : List ℕ → List ℕ → List ℕ → Bool
may_name names before next =
    (length next == 0 && has_part names (last_word before)) || ((slice_index next 0 == 96 && has_part names before)
    || (slice_index before (length before - 1) == 96 && has_part names next))

-- one of some names may stand at a colon of a text
abbrev pub holds_names : List ℕ → List ℕ → Bool
holds_names names text = let pieces = by_colons text in list_any (λ pair. may_name names pair.0 pair.1) (zip pieces (drop 1 pieces))

-- the mark of names that are handed back: the default role may stand beside a backquote, another name at a colon
abbrev pub holds_handed : Parts → List ℕ → Bool
holds_handed asked text =
    option_map_or (λ names. (hands_role asked [] && list_any (λ b. b == 96) text) || holds_names names.now text) asked.handed false

-- any of the marks of parts
abbrev pub holds_part : List ℕ → Bool
holds_part text = holds_role_end text || (holds_at_sign text || (holds_wider_role text || (holds_wider_directive text || holds_dollar_sign text)))

-- any of the marks
abbrev pub holds_mark : Parts → List ℕ → Bool
holds_mark asked text = holds_handed asked text || holds_part text

-- The parts that hold in a text, and the names that are handed back in it: those that are asked for and whose mark the text holds. The part
-- `unmarked` has no mark: it holds where it is asked for.
abbrev pub parts_in : Parts → List ℕ → Parts
parts_in asked text = record {
  marks = asked.marks && holds_role_end text;
  mail = asked.mail && holds_at_sign text;
  roles = asked.roles && holds_wider_role text;
  directives = asked.directives && holds_wider_directive text;
  unmarked = asked.unmarked;
  keywords = asked.keywords && holds_dollar_sign text;
  handed = if holds_handed asked text then asked.handed else None;
}
