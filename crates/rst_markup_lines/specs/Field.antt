-- Fields (Markup Specification, 'Field Lists').
use Rattle.std.specs.Prelude.{ℕ, ◌+◌, ◌-◌, Bool, false, ◌||◌, ◌&&◌, ◌==◌, nat_lt, List, drop, if◌then◌else◌, Option, None, Some}
use Rattle.std.specs.Option.{option_and_then, option_map_or}
use Rattle.rst_settings.specs.declared.Parts.{Parts}
use Rattle.rst_markup_lines.specs.TextStart.{begins_with}
use Rattle.rst_markup_lines.specs.Closing.{closed}
use Rattle.rst_markup_lines.specs.Marker.{marker_of}
use Rattle.rst_markup_lines.specs.Place.{place_of}
use Rattle.rst_markup_lines.specs.declared.closing.Closing.TheVariants.{Colon, ColonQuote}
use Rattle.rst_markup_lines.specs.declared.marker.Marker.{Marker}
use Rattle.rst_markup_lines.specs.declared.field.FieldMark.{FieldMark}

-- the n characters at the front of a text are no name: there are none, or they begin with a space or a colon, or end
-- with a space
abbrev pub is_no_name : ℕ → List ℕ → Bool
is_no_name n t = n == 0 || (begins_with 32 t || (begins_with 58 t || begins_with 32 (drop (n - 1) t)))

-- in the first n characters of a text an unescaped colon stands directly before a backquote
abbrev pub names_role : List ℕ → ℕ → Bool
names_role t n = option_map_or (λ at. nat_lt at n) (closed ColonQuote t) false

-- a field whose name has n characters, after the first colon, with this marker
abbrev pub field_with : ℕ → Marker → Option FieldMark
field_with n m = Some (record { name = place_of 1 n; marker = m })

-- the same, if the n characters are a name (one without a role, if `marks` holds) and spaces or the end are after its colon
abbrev pub field_if : Bool → List ℕ → ℕ → Option FieldMark
field_if marks t n =
    if is_no_name n (drop 1 t) || (marks && names_role (drop 1 t) n) then None
    else option_and_then (field_with n) (marker_of (n + 2) t)

-- A name between colons, up to the first unescaped one with a space or the end after it. With the part `marks` the name has
-- no unescaped colon directly before a backquote.
unfoldable pub field_of : Parts → List ℕ → Option FieldMark
field_of parts t = if begins_with 58 t then option_and_then (field_if parts.marks t) (closed Colon (drop 1 t)) else None
