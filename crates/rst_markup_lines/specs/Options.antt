-- The options of an option list's item, by the places of their characters (Markup Specification, 'Option Lists').
use Rattle.std.specs.Prelude.{ℕ, ◌+◌, Bool, true, false, List, length, map, All, IfSome}
use Rattle.std.specs.Option.{option_map}
use Rattle.std.specs.List.{filter}
use Rattle.rst_markup_lines.specs.OptionMarker.{PlacedOption, options_from, width_with}
use Rattle.rst_markup_lines.specs.Place.{place_of, IsIn}
use Rattle.rst_markup_lines.specs.declared.option.Argument.{Argument}
use Rattle.rst_markup_lines.specs.declared.option.OptionMark.{OptionMark}
use Rattle.rst_markup_lines.specs.declared.option.OptionTail.{OptionTail}
use Rattle.rst_markup_lines.specs.declared.option.OptionTail.TheVariants.{Wrong}
use Rattle.rst_markup_lines.specs.declared.options.ListedArgument.{ListedArgument}
use Rattle.rst_markup_lines.specs.declared.options.ListedOption.{ListedOption}

-- an argument, where this many characters come before its delimiter
abbrev pub argument_at : ℕ → Argument → ListedArgument
argument_at before a = record { delimiter = a.delimiter; text = place_of (width_with a.delimiter before) a.len }

-- an option, where this many characters come before it
abbrev pub option_in : ℕ → OptionMark → ListedOption
option_in before o = record { string = place_of before o.string; argument = option_map (argument_at (before + o.string)) o.argument }

-- this text may follow an option: a comma and a space, two or more spaces, or the end
abbrev pub may_follow_option : OptionTail → Bool
may_follow_option Wrong = false
may_follow_option tail = true

-- the options with such a thing after them, by their places
abbrev pub listed : List PlacedOption → List ListedOption
listed os = map (λ o. option_in o.from o.mark) (filter (λ o. may_follow_option o.tail) os)

-- the options that a line begins with, each followed by a comma and a space, by two or more spaces or by the end
abbrev pub options_in : List ℕ → List ListedOption
options_in t = listed (options_from 0 t)

-- ---- where they are

-- an option is within n characters, with its argument
abbrev pub IsOptionIn : ℕ → ListedOption → Type 0
IsOptionIn n o = IsIn n o.string × IfSome o.argument (λ a. IsIn n a.text)

-- within the text
abbrev pub AreOptionsIn : List ℕ → List ListedOption → Type 0
AreOptionsIn t os = All (λ o. IsOptionIn (length t) o) os
