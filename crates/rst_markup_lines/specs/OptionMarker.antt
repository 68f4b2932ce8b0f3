-- Option markers (Markup Specification, 'Option Lists').
use Rattle.std.specs.Prelude.{ℕ, zero, suc, ◌+◌, ◌-◌, Bool, not, ◌&&◌, ◌||◌, ◌==◌, List, [], ◌∷◌, drop, map, if◌then◌else◌, Option, None, Some}
use Rattle.std.specs.Char.{is_ascii_alphanumeric}
use Rattle.std.specs.List.{last_or}
use Rattle.std.specs.Option.{option_and_then}
use Rattle.rst_text.specs.Characters.{is_letter}
use Rattle.rst_markup_lines.specs.TextStart.{begins_by, begins_with}
use Rattle.rst_markup_lines.specs.Class.{run}
use Rattle.rst_markup_lines.specs.declared.class.Class.TheVariants.{Option as OptionClass, Bracketed}
use Rattle.rst_markup_lines.specs.declared.option.Delimiter.{Delimiter}
use Rattle.rst_markup_lines.specs.declared.option.Delimiter.TheVariants.{Nothing, Space, Equals}
use Rattle.rst_markup_lines.specs.declared.option.Argument.{Argument}
use Rattle.rst_markup_lines.specs.declared.option.OptionMark.{OptionMark}
use Rattle.rst_markup_lines.specs.declared.option.OptionTail.{OptionTail}
use Rattle.rst_markup_lines.specs.declared.option.OptionTail.TheVariants.{Last, Next, Wrong}
use Rattle.rst_markup_lines.specs.declared.marker.Marker.{Marker}
use Rattle.rst_markup_lines.specs.Marker.{marker_of}

-- a text begins with a digit or a letter of ASCII
abbrev pub begins_ascii_alphanumeric : List ℕ → Bool
begins_ascii_alphanumeric t = begins_by is_ascii_alphanumeric t

-- a text begins with a letter
abbrev pub begins_letter : List ℕ → Bool
begins_letter t = begins_by is_letter t

-- how many characters `<`, n others than `<` and `>`, and `>` are; 0 where n is 0 or the `>` is missing
abbrev pub bracketed_len : ℕ → List ℕ → ℕ
bracketed_len n t = if n == 0 || not (begins_with 62 (drop (n + 1) t)) then 0 else n + 2

-- how many characters the argument at the front of a text has: a letter followed by alphanumerics, `_`, `-`, or one or
-- more characters other than these in angle brackets; 0 where there is none
unfoldable pub argument_len : List ℕ → ℕ
argument_len t =
    if begins_letter t then run OptionClass t
    else if begins_with 60 t then bracketed_len (run Bracketed (drop 1 t)) t
    else 0

-- an argument of n characters after this delimiter, if there are some
abbrev pub with_delimiter : Delimiter → ℕ → Option Argument
with_delimiter d n = if n == 0 then None else Some (record { delimiter = d; len = n })

-- the argument at the front of a text that this delimiter precedes
unfoldable pub argument_after : Delimiter → List ℕ → Option Argument
argument_after d t = with_delimiter d (argument_len t)

-- with or without a space before it
unfoldable pub short_argument : List ℕ → Option Argument
short_argument t = if begins_with 32 t then argument_after Space (drop 1 t) else argument_after Nothing t

-- with a space or `=` before it
unfoldable pub long_argument : List ℕ → Option Argument
long_argument t =
    if begins_with 32 t then argument_after Space (drop 1 t)
    else if begins_with 61 t then argument_after Equals (drop 1 t)
    else None

-- an option of n characters with its argument, if it has one
abbrev pub option_of : ℕ → Option Argument → Option OptionMark
option_of n a = Some (record { string = n; argument = a })

-- after n characters an ASCII alphanumeric followed by alphanumerics, `_`, `-`
unfoldable pub long_option : ℕ → List ℕ → Option OptionMark
long_option n t =
    if begins_ascii_alphanumeric (drop n t) then (let m = n + 1 + run OptionClass (drop 1 (drop n t)) in option_of m (long_argument (drop m t)))
    else None

-- after its first character, which marks it, a digit or a letter of ASCII, and maybe an argument
unfoldable pub short_option : List ℕ → Option OptionMark
short_option t = if begins_ascii_alphanumeric (drop 1 t) then option_of 2 (short_argument (drop 2 t)) else None

-- `-` or `+` and an ASCII alphanumeric, or `--` or `/` and a name
unfoldable pub option_at : List ℕ → Option OptionMark
option_at t =
    if begins_with 47 t then long_option 1 t
    else if begins_with 45 t && begins_with 45 (drop 1 t) then long_option 2 t
    else if begins_with 45 t || begins_with 43 t then short_option t
    else None

-- how many characters n characters are with the delimiter before them
abbrev pub width_with : Delimiter → ℕ → ℕ
width_with Nothing n = n
width_with _ n = n + 1

-- how many characters an argument has with what precedes it
abbrev pub argument_width : Option Argument → ℕ
argument_width None = 0
argument_width (Some a) = width_with a.delimiter a.len

-- an option with spaces or the end after it is the last, and one with neither is wrong
abbrev pub last_if : Option Marker → OptionTail
last_if None = Wrong
last_if (Some m) = Last m

-- What follows the first n characters, which are an option: a comma and a space lead to the next, two or more spaces or
-- the end make it the last, and all else is wrong.
unfoldable pub tail_at : ℕ → List ℕ → OptionTail
tail_at n t =
    if begins_with 44 (drop n t) && begins_with 32 (drop 1 (drop n t)) then Next (n + 2)
    else if begins_with 32 (drop n t) && not (begins_with 32 (drop 1 (drop n t))) then Wrong
    else last_if (marker_of n t)

-- what follows an option at the front of a text; where there is none, the text is wrong
abbrev pub tail_after : Option OptionMark → List ℕ → OptionTail
tail_after None t = Wrong
tail_after (Some o) t = tail_at (o.string + argument_width o.argument) t

-- what follows the option at the front of a text
unfoldable pub option_tail : List ℕ → OptionTail
option_tail t = tail_after (option_at t) t

-- an option of a text: how many characters come before it, the option, and what follows it
pub record PlacedOption : Type 0 where
  pub from : ℕ
  pub mark : OptionMark
  pub tail : OptionTail

-- the same option, n characters further on
abbrev pub moved : ℕ → PlacedOption → PlacedOption
moved n o = record { from = n + o.from; mark = o.mark; tail = o.tail }

-- the option at the front of a text, if there is one, and those after it, if its tail leads to a next
abbrev pub with_next : Option OptionMark → OptionTail → (ℕ → List PlacedOption) → List PlacedOption
with_next None tail next = []
with_next (Some o) (Next n) next = record { from = 0; mark = o; tail = Next n } ∷ next n
with_next (Some o) tail next = record { from = 0; mark = o; tail = tail } ∷ []

-- The options of a text from its place k on: the one there, and those that the tail of each leads to. They are
-- the options of the text without its first character from the place before, a character further on.
unfoldable pub options_from : ℕ → List ℕ → List PlacedOption
options_from k [] = []
options_from (suc k) (c ∷ cs) = map (moved 1) (options_from k cs)
options_from zero (c ∷ cs) = with_next (option_at (c ∷ cs)) (option_tail (c ∷ cs)) (λ n. map (moved 1) (options_from (n - 1) cs))

-- a marker after further characters
abbrev pub shifted : ℕ → Marker → Marker
shifted before m = record { cut = before + m.cut; bare = m.bare }

-- the marker that ends with an option after this many characters, if nothing more or two or more spaces follow it
abbrev pub marker_by : ℕ → OptionTail → Option Marker
marker_by before (Last m) = Some (shifted before m)
marker_by before tail = None

-- the marker of options joined by `, `: their last makes it, with two or more spaces or the end after it
abbrev pub marker_of_options : List PlacedOption → Option Marker
marker_of_options os = option_and_then (λ o. marker_by o.from o.tail) (last_or None os)

-- options joined by `, `, then two or more spaces or the end
abbrev pub option_marker : List ℕ → Option Marker
option_marker t = marker_of_options (options_from 0 t)
