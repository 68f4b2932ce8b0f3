-- What the values of options mean (Directives, 'Common Options', 'Image', 'Figure', 'Table of Contents', 'Table', 'List Table').
use Rattle.std.specs.Prelude.{ℕ, true, false, List, [], ◌∷◌, map, Option, Some, None, option_map, if◌then◌else◌}
use Rattle.std.specs.List.{list_any}
use Rattle.std.specs.declared.string.String.{String}
use Rattle.rst_text.specs.Block.{is_blank}
use Rattle.rst_text.specs.Names.{words_of, id_of, name_of}
use Rattle.rst_text.specs.Text.{chars_of}
use Rattle.rst_markup_directives.specs.Characters.{Text}
use Rattle.rst_markup_directives.specs.Contents.{backlinks_of, depth_of}
use Rattle.rst_markup_directives.specs.Measure.{measure_of, scale_of, alignment_of}
use Rattle.rst_markup_directives.specs.Kind.{has_drawn, has_vertical}
use Rattle.rst_markup_directives.specs.Widths.{Columns, columns_of, columns_in}
use Rattle.rst_markup_directives.specs.Target.{Destination, destination_of, target_value}
use Rattle.rst_markup_directives.specs.declared.contents.Backlinks.{Backlinks}
use Rattle.rst_markup_directives.specs.declared.measure.Alignment.{Alignment}
use Rattle.rst_markup_directives.specs.declared.kind.OptionSet.{OptionSet}
use Rattle.rst_markup_directives.specs.declared.option.OptionName.{OptionName}
use Rattle.rst_markup_directives.specs.declared.option.OptionName.TheVariants.{Alt, Height, Width, Scale, Align, Target, Class, Name as NameOption, FigureWidth, FigureClass, Subtitle, File, Url, Inclusion, Depth, Local, Backlinks as BacklinksOption, HeaderRows, StubColumns, Widths as WidthsOption}
use Rattle.rst_markup_directives.specs.declared.value.OptionValue.{OptionValue}
use Rattle.rst_markup_directives.specs.declared.value.OptionValue.TheVariants.{Text as TextValue, Measure, Number, Place, Classes, Link, Name as NameValue, Backlinks as BacklinksValue, Widths as WidthsValue}

-- the meaning of a value
pub data Meaning : Type 0 where
  plain : Text → Meaning
  measured : Text → Meaning
  numbered : ℕ → Meaning
  placed : Alignment → Meaning
  classed : List Text → Meaning
  linked : Destination → Text → Meaning
  called : Text → Meaning
  led_back : Backlinks → Meaning
  sized : Columns → Meaning

-- ---- classes

-- texts, where there are some and none is empty
abbrev pub all_filled : List Text → Option (List Text)
all_filled [] = None
all_filled (t ∷ ts) = if list_any is_blank (t ∷ ts) then None else Some (t ∷ ts)

-- the ids of the words of a text, where there are some and none is empty
unfoldable pub ids_of : Text → Option (List Text)
ids_of t = all_filled (map id_of (words_of t))

-- ---- values

-- a text, unless it is empty
abbrev pub some_text : Text → Option Text
some_text t = if is_blank t then None else Some t

-- nothing is written, which counts as 1
abbrev pub one_if_empty : Text → Option ℕ
one_if_empty t = if is_blank t then Some 1 else None

-- The meaning of an option's value, if the option can have it. In a name each run of white is one space, and case doesn't count.
abbrev pub option_meaning : OptionSet → OptionName → Text → Option Meaning
option_meaning options Alt t = Some (plain t)
option_meaning options Height t = option_map measured (measure_of t false false)
option_meaning options Width t = option_map measured (measure_of t true false)
option_meaning options Scale t = option_map numbered (scale_of t)
option_meaning options Align t = option_map placed (alignment_of t (has_vertical options))
option_meaning options Target t = option_map (λ to. linked to t) (target_value t)
option_meaning options Class t = option_map classed (ids_of t)
option_meaning options NameOption t = Some (called (name_of t))
option_meaning options FigureWidth t = option_map measured (measure_of t true true)
option_meaning options FigureClass t = option_map classed (ids_of t)
option_meaning options Subtitle t = option_map plain (some_text t)
option_meaning options File t = option_map plain (some_text t)
option_meaning options Url t = option_map plain (some_text t)
option_meaning options Inclusion t = Some (plain t)
option_meaning options Depth t = option_map numbered (depth_of t)
option_meaning options Local t = option_map numbered (one_if_empty t)
option_meaning options BacklinksOption t = option_map led_back (backlinks_of t)
option_meaning options HeaderRows t = option_map numbered (depth_of t)
option_meaning options StubColumns t = option_map numbered (depth_of t)
option_meaning options WidthsOption t = option_map sized (columns_of (has_drawn options) t)

-- ---- as they are kept

-- the characters of texts
abbrev pub chars_of_texts : {A : Type 0} → List (String A) → List Text
chars_of_texts texts = map chars_of texts

-- the meaning of an option's value
abbrev pub meaning_of : OptionValue → Meaning
meaning_of (TextValue text) = plain (chars_of text)
meaning_of (Measure text) = measured (chars_of text)
meaning_of (Number number) = numbered number
meaning_of (Place alignment) = placed alignment
meaning_of (Classes ids) = classed (chars_of_texts ids.items)
meaning_of (Link to source) = linked (destination_of to) (chars_of source)
meaning_of (NameValue name) = called (chars_of name)
meaning_of (BacklinksValue backlinks) = led_back backlinks
meaning_of (WidthsValue widths) = sized (columns_in widths)
