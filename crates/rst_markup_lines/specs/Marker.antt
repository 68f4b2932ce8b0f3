-- Markers (Markup Specification, 'Bullet Lists', 'Doctest Blocks', 'Line Blocks').
use Rattle.std.specs.Prelude.{ℕ, ◌+◌, Bool, true, ◌&&◌, ◌||◌, ◌==◌, List, drop, if◌then◌else◌, Option, None, Some}
use Rattle.rst_text.specs.Block.{indentation, is_blank}
use Rattle.rst_markup_lines.specs.TextStart.{begins_with, first, unindented}
use Rattle.rst_markup_lines.specs.declared.marker.Marker.{Marker}

-- the first n characters of a text with the spaces after them, if spaces or the end are after them
unfoldable pub marker_of : ℕ → List ℕ → Option Marker
marker_of n t =
    if is_blank (drop n t) then Some (record { cut = n; bare = true })
    else if begins_with 32 (drop n t) then Some (record { cut = n + indentation (drop n t); bare = is_blank (unindented (drop n t)) })
    else None

-- `*`, `+`, `-`, U+2022, U+2023, U+2043
abbrev pub is_bullet : ℕ → Bool
is_bullet c = (c == 42 || (c == 43 || c == 45)) || (c == 0x2022 || (c == 0x2023 || c == 0x2043))

-- the mark that the first character of a text is, if it is a bullet
abbrev pub bullet_by : Option ℕ → List ℕ → Option Marker
bullet_by (Some c) t = if is_bullet c then marker_of 1 t else None
bullet_by None t = None

-- the mark of an item of a bullet list: a bullet with spaces or the end after it
unfoldable pub bullet : List ℕ → Option Marker
bullet t = bullet_by (first t) t

-- the mark of a doctest block: `>>>` with spaces or the end after it
unfoldable pub doctest : List ℕ → Option Marker
doctest t = if begins_with 62 t && (begins_with 62 (drop 1 t) && begins_with 62 (drop 2 t)) then marker_of 3 t else None

-- the mark of a line of a line block: `|` with spaces or the end after it
unfoldable pub line_bar : List ℕ → Option Marker
line_bar t = if begins_with 124 t then marker_of 1 t else None
