-- References to footnotes and citations (Markup Specification, 'Footnote References', 'Citation References').
use Rattle.std.specs.Prelude.{ℕ, ◌+◌, Bool, ◌&&◌, Option, None, Some, option_and_then, if◌then◌else◌}
use Rattle.rst_text.specs.Characters.{Text, has, is_alnum_at}
use Rattle.rst_inline_scan.specs.Characters.{is_free_after}
use Rattle.rst_text.specs.SimpleNames.{name_stop}
use Rattle.rst_inline_scan.specs.declared.piece.Kind.TheVariants.{Label}
use Rattle.rst_inline_scan.specs.declared.piece.Piece.{Piece}

-- The end of the label that begins at the place: `*`, `#` alone, `#` and a simple name, or a simple name, which may be digits;
-- none where nothing follows such a name.
unfoldable pub label_stop : Text → ℕ → Option ℕ
label_stop t i =
    if has t i 42 then Some (i + 1)
    else if has t i 35 then (if is_alnum_at t (i + 1) then name_stop t (i + 1) else Some (i + 1))
    else name_stop t i

-- what follows the label closes it, and fits
abbrev pub closes_label : Text → ℕ → Bool
closes_label t e = has t e 93 && (has t (e + 1) 95 && is_free_after t (e + 2))

-- the reference whose label has this end, if the label is closed there and what follows fits
abbrev pub label_piece : Text → ℕ → ℕ → Option Piece
label_piece t i e = if closes_label t e then Some (record { kind = Label; from = i; content_from = i + 1; content_to = e; to = e + 2 }) else None

-- `[`, a label and `]_`
unfoldable pub label : Text → ℕ → Option Piece
label t i = if has t i 91 then option_and_then (label_piece t i) (label_stop t (i + 1)) else None
