-- Texts with the values of keywords of revision control in the keywords' place (reStructuredText Markup Specification, 'RCS Keywords').
use Rattle.std.specs.Prelude.{ℕ, Bool, false, ◌&&◌, ◌||◌, ◌==◌, nat_lt, List, [], ◌∷◌, ◌++◌, ◌-◌, map, take, drop, length, slice_index, Option, Some, None, option_map, unwrap_or, if◌then◌else◌, codes, chars, encode_utf8_all}
use Rattle.std.specs.Char.{is_ascii_alphabetic, is_ascii_digit, to_ascii_lowercase}
use Rattle.std.specs.List.{join_with_byte, prefix_len, slice_split}
use Rattle.std.specs.Option.{option_or}
use Rattle.rst_text.specs.Characters.{Text}
use Rattle.rst_transform_docinfo.specs.declared.keywords.Form.{Form}
use Rattle.rst_transform_docinfo.specs.declared.keywords.Form.TheVariants.{File, Named}

-- what stands for a character in a mark: 0 for each digit, a hyphen for a slash, and a small letter for a capital one
abbrev pub shape : ℕ → ℕ
shape c = if is_ascii_digit c then 48 else if c == 47 then 45 else to_ascii_lowercase c

-- what follows a mark, if a text begins with it
abbrev pub behind : List ℕ → Text → Option Text
behind [] text = Some text
behind (mark ∷ marks) [] = None
behind (mark ∷ marks) (c ∷ cs) = if shape c == mark then behind marks cs else None

-- ---- dates

abbrev pub by_dollars : Text → List Text
by_dollars text = slice_split (λ c. c == 36) text

-- a time after a space or a T, and then anything up to a space
abbrev pub is_time : Option Text → Bool
is_time (Some (t ∷ c ∷ cs)) = (t == 32 || to_ascii_lowercase t == 116) && (is_ascii_digit c || c == 58) && slice_index cs (length cs - 1) == 32
is_time _ = false

-- a text between two dollar signs is a date: the name, a day and a time
abbrev pub is_date : Text → Bool
is_date text = is_time (behind (codes "date: 0000-00-00") text)

-- the day of a date, with hyphens
abbrev pub day_of : Text → Text
day_of text = map (λ c. if c == 47 then 45 else c) (take 10 (drop 6 text))

-- the date that pieces begin with, if a dollar sign follows it
abbrev pub first_date : List Text → Option Text
first_date (piece ∷ next ∷ more) = if is_date piece then Some piece else None
first_date _ = None

-- the text of pieces with dollar signs between them, in which the day of each date takes the date's place
abbrev pub with_days : List Text → Text
with_days [] = []
with_days (p ∷ []) = p
with_days (p ∷ q ∷ more) = p ++ unwrap_or (option_map (λ date. day_of date ++ with_days more) (first_date (q ∷ more))) (36 ∷ with_days (q ∷ more))

-- ---- other keywords: of a file, `$RCSfile: VALUE,v $`, and of any name, `$NAME: VALUE $`

-- what follows letters, of which there is one at least, and `: `
abbrev pub behind_name : Text → Option Text
behind_name text = let letters = prefix_len is_ascii_alphabetic text in if letters == 0 then None else behind (codes ": ") (drop letters text)

-- what follows the name of a keyword, if a text begins with one
abbrev pub opened : Form → Text → Option Text
opened File text = behind (codes "$rcsfile: ") text
opened Named [] = None
opened Named (c ∷ cs) = if c == 36 then behind_name cs else None

abbrev pub end_of : Form → List ℕ
end_of File = codes ",v $"
end_of Named = codes " $"

-- a text without the last end of a keyword in it, if there is one
abbrev pub closed : Form → Text → Option Text
closed form [] = None
closed form (c ∷ cs) = option_or (option_map (λ more. c ∷ more) (closed form cs)) (behind (end_of form) (c ∷ cs))

-- a line from a keyword on, whose name a text follows, with the keyword's value in its place: it ends with the last end in the line, and has one
-- character at least
abbrev pub valued : Form → Text → Text → Text
valued form line [] = line
valued form line (c ∷ cs) = unwrap_or (option_map (λ more. c ∷ more) (closed form cs)) line

-- a line with the value of its first keyword in the keyword's place
abbrev pub line_value : Form → Text → Text
line_value form [] = []
line_value form (c ∷ cs) = unwrap_or (option_map (valued form (c ∷ cs)) (opened form (c ∷ cs))) (c ∷ line_value form cs)

-- each line with the value of its keyword in its place
abbrev pub with_values : Form → Text → Text
with_values form text = join_with_byte 10 (map (line_value form) (slice_split (λ c. c == 10) text))

-- The text with the values of keywords in their place: those of dates, or if there is none, those of files, or if there is none of
-- these either, those of any names. A value is shorter than its keyword.
abbrev pub without_keywords : Text → Text
without_keywords text =
    let dated = with_days (by_dollars text) in
    let named = with_values File text in
    if nat_lt (length dated) (length text) then dated else if nat_lt (length named) (length text) then named else with_values Named text

abbrev pub text_without_keywords : List ℕ → List ℕ
text_without_keywords text = encode_utf8_all (without_keywords (chars text))
