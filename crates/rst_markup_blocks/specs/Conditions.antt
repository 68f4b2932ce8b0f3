-- Conditions of the table of constructs that look below the line (Markup Specification, 'Enumerated Lists', 'Option
-- Lists'): at the two lines after it, of which one that is missing counts as empty.
use Rattle.std.specs.Prelude.{ℕ, not, ◌&&◌, ◌||◌, List, drop, if◌then◌else◌, Option, None, Some}
use Rattle.rst_text.specs.Block.{Block, first_text, is_blank}
use Rattle.rst_markup_lines.specs.TextStart.{begins_with, is_loose}
use Rattle.rst_markup_lines.specs.Enumerator.{enumerator_of, begins_next}
use Rattle.rst_markup_lines.specs.OptionMarker.{option_marker}
use Rattle.rst_markup_lines.specs.declared.enumerator.Enumerator.{Enumerator}
use Rattle.rst_markup_lines.specs.declared.marker.Marker.{Marker}

-- the text of line k, counted from 0; past the end it is empty
abbrev pub text_at : Block → ℕ → List ℕ
text_at X k = first_text (drop k X)

-- the text of the line after the first
abbrev pub next_text : Block → List ℕ
next_text X = text_at X 1

-- the text of the line after that
abbrev pub after_text : Block → List ℕ
after_text X = text_at X 2

-- an enumerator, if the next line is missing, blank, indented, or begins with a next enumerator and a space
abbrev pub if_listed : Option Enumerator → List ℕ → Option Enumerator
if_listed None next = None
if_listed (Some e) next = if is_loose next || begins_next e next then Some e else None

-- an enumerator whose next line is missing, blank, indented, or begins with a next enumerator and a space
unfoldable pub item_enumerator : List ℕ → List ℕ → Option Enumerator
item_enumerator t next = if_listed (enumerator_of t) next

-- an option marker, if its description follows it or, indented, in the next line or in the one after a blank one
abbrev pub if_described : Option Marker → List ℕ → List ℕ → Option Marker
if_described None next after = None
if_described (Some m) next after = if not m.bare || (begins_with 32 next || (is_blank next && begins_with 32 after)) then Some m else None

-- an option marker with text after it, or an indented line next, or next but a blank one
unfoldable pub item_option : List ℕ → List ℕ → List ℕ → Option Marker
item_option t next after = if_described (option_marker t) next after
