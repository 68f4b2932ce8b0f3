-- The arguments of directives (Directives, 'Generic Admonition', 'Topic', 'Sidebar', 'Image', 'Figure', 'Code', 'Raw Data Pass-Through', 'Container',
-- 'Class').
use Rattle.std.specs.Prelude.{List, [], ◌∷◌, Option, Some, None, option_map, Result, Ok, Err, if◌then◌else◌}
use Rattle.rst_text.specs.Names.{name_of, normalized_white}
use Rattle.rst_text.specs.Text.{chars_of}
use Rattle.rst_text.specs.Characters.{is_among, without_white}
use Rattle.rst_markup_directives.specs.Characters.{Text}
use Rattle.rst_markup_directives.specs.Lines.{joined_nonempty}
use Rattle.rst_markup_directives.specs.Value.{chars_of_texts, ids_of}
use Rattle.rst_markup_directives.specs.Wrong.{Wrong, no_argument, many_arguments, wrong_in}
use Rattle.rst_markup_directives.specs.declared.argument.Argument.{Argument}
use Rattle.rst_markup_directives.specs.declared.argument.Argument.TheVariants.{Absent, Title, Uri, Language, Formats, Classes}
use Rattle.rst_markup_directives.specs.declared.fault.Detail.{Detail}
use Rattle.rst_markup_directives.specs.declared.kind.ArgumentKind.{ArgumentKind}
use Rattle.rst_markup_directives.specs.declared.kind.ArgumentKind.TheVariants.{Absent as NoArgument, Title as TitleArgument, OptionalTitle, Uri as UriArgument, Language as LanguageArgument, Formats as FormatsArgument, Classes as ClassesArgument, OptionalClasses}
use Rattle.rst_markup_blocks.specs.declared.part.Part.{Part}

-- what an argument means
pub data ArgumentMeaning : Type 0 where
  nothing : ArgumentMeaning
  title : Part → ArgumentMeaning
  uri : Text → ArgumentMeaning
  language : Option Text → ArgumentMeaning
  formats : Text → ArgumentMeaning
  classes : Text → Option (List Text) → ArgumentMeaning

-- a title, some lines
abbrev pub title_argument : List Text → Part → Result ArgumentMeaning Wrong
title_argument [] part = Err no_argument
title_argument (t ∷ ts) part = Ok (title part)

-- a title, some lines, or none
abbrev pub optional_title : List Text → Part → ArgumentMeaning
optional_title [] part = nothing
optional_title (t ∷ ts) part = title part

-- a URI, without white characters
abbrev pub uri_of : List Text → Result ArgumentMeaning Wrong
uri_of [] = Err no_argument
uri_of (t ∷ ts) = Ok (uri (without_white (joined_nonempty (t ∷ ts))))

-- one word, of a text whose runs of white are one space each: a space in it parts two words
unfoldable pub word_of : Text → Result ArgumentMeaning Wrong
word_of words = if is_among words 32 then Err many_arguments else Ok (language (Some words))

-- a language, one word, or none
abbrev pub language_of : List Text → Result ArgumentMeaning Wrong
language_of [] = Ok (language None)
language_of (t ∷ ts) = word_of (normalized_white (joined_nonempty (t ∷ ts)))

-- the formats that raw data is for, in small letters, with one space between two of them
abbrev pub formats_of : List Text → Result ArgumentMeaning Wrong
formats_of [] = Err no_argument
formats_of (t ∷ ts) = Ok (formats (name_of (joined_nonempty (t ∷ ts))))

-- class names, with the ids of their words, if each has one
abbrev pub classes_of : Text → ArgumentMeaning
classes_of text = classes text (ids_of text)

-- class names in some lines
abbrev pub classes_argument : List Text → Result ArgumentMeaning Wrong
classes_argument [] = Err no_argument
classes_argument (t ∷ ts) = Ok (classes_of (joined_nonempty (t ∷ ts)))

-- class names in some lines, or none
abbrev pub optional_classes : List Text → ArgumentMeaning
optional_classes [] = nothing
optional_classes (t ∷ ts) = classes_of (joined_nonempty (t ∷ ts))

-- the argument of a kind that the lines of a part of a view are: none, a title, a URI, a language, formats or class names
abbrev pub argument_of : ArgumentKind → List Text → Part → Result ArgumentMeaning Wrong
argument_of NoArgument ts part = Ok nothing
argument_of TitleArgument ts part = title_argument ts part
argument_of OptionalTitle ts part = Ok (optional_title ts part)
argument_of UriArgument ts part = uri_of ts
argument_of LanguageArgument ts part = language_of ts
argument_of FormatsArgument ts part = formats_of ts
argument_of ClassesArgument ts part = classes_argument ts
argument_of OptionalClasses ts part = Ok (optional_classes ts)

-- ---- as it is kept

-- the meaning of an argument
abbrev pub given_in : Argument → ArgumentMeaning
given_in Absent = nothing
given_in (Title part) = title part
given_in (Uri text) = uri (chars_of text)
given_in (Language word) = language (option_map chars_of word)
given_in (Formats text) = formats (chars_of text)
given_in (Classes text ids) = classes (chars_of text) (option_map (λ v. chars_of_texts v.items) ids)

-- the meaning of an argument, or what is wrong with it
abbrev pub argument_in : Result Argument Detail → Result ArgumentMeaning Wrong
argument_in (Ok argument) = Ok (given_in argument)
argument_in (Err detail) = Err (wrong_in detail)
