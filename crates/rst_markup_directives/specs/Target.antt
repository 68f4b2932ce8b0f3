-- What the text of a target means (Markup Specification, 'Hyperlink Targets').
use Rattle.std.specs.Prelude.{◌-◌, Bool, not, ◌&&◌, ◌==◌, nat_lt, nat_le, map, take, slice_range, length, Option, Some, None, if◌then◌else◌}
use Rattle.std.specs.List.{slice_split}
use Rattle.rst_text.specs.Block.{is_blank}
use Rattle.rst_text.specs.Text.{chars_of}
use Rattle.rst_text.specs.Characters.{has, without_white, is_dark}
use Rattle.rst_text.specs.Escapes.{unescaped}
use Rattle.rst_text.specs.SimpleNames.{is_simple_name}
use Rattle.rst_markup_directives.specs.Characters.{Text, unindented}
use Rattle.rst_markup_directives.specs.Escapes.{ends_escaping, has_bare_backquote}
use Rattle.rst_markup_directives.specs.Lines.{joined_nonempty}
use Rattle.rst_markup_directives.specs.declared.target.Target.{Target}
use Rattle.rst_markup_directives.specs.declared.target.Target.TheVariants.{Name, Uri}

-- ---- the text

-- the lines of a text without their indentation, joined by line feeds, empty ones left out
unfoldable pub target_text : Text → Text
target_text t = joined_nonempty (map unindented (slice_split (λ c. c == 10) t))

-- ---- references

-- a simple reference name and `_`
unfoldable pub is_simple_reference : Text → Bool
is_simple_reference t = nat_lt 0 (length t) && (has t (length t - 1) 95 && is_simple_name (take (length t - 1) t))

-- it isn't empty, there is no white at either end, and each backquote in it is escaped
unfoldable pub is_phrase : Text → Bool
is_phrase t = is_dark t 0 && (is_dark t (length t - 1) && not (has_bare_backquote t))

-- a text without its first character and its last two
unfoldable pub phrase_in : Text → Text
phrase_in t = slice_range t 1 (length t - 2)

-- a phrase in backquotes and `_`, where the last backquote isn't escaped
unfoldable pub is_phrase_reference : Text → Bool
is_phrase_reference t =
    nat_le 4 (length t) && (has t 0 96 && (has t (length t - 1) 95 && (has t (length t - 2) 96
    && (not (ends_escaping (take (length t - 2) t)) && is_phrase (phrase_in t)))))

-- ---- what it means

-- a name, or a URI
pub data Destination : Type 0 where
  named : Text → Destination
  located : Text → Destination

-- a URI, unless nothing is left of it
abbrev pub located_if : Text → Option Destination
located_if uri = if is_blank uri then None else Some (located uri)

-- the name in a reference by a simple name or by a phrase; any other text is a URI, unless nothing is left of it
unfoldable pub destination_in : Text → Option Destination
destination_in t =
    if is_simple_reference t then Some (named (take (length t - 1) t))
    else if is_phrase_reference t then Some (named (unescaped (phrase_in t)))
    else located_if (without_white (unescaped t))

-- What the text of a target means: a name as it is written, without escapes; or a URI, without escapes and white; or
-- nothing, where nothing is left of it.
unfoldable pub target_value : Text → Option Destination
target_value t = destination_in (target_text t)

-- ---- as it is kept

-- the meaning of a target
abbrev pub destination_of : Target → Destination
destination_of (Name name) = named (chars_of name)
destination_of (Uri uri) = located (chars_of uri)
