-- Roles, and references by a simple name (Markup Specification, 'Interpreted Text', 'Hyperlink References').
use Rattle.std.specs.Prelude.{ℕ, ◌+◌, ◌-◌, Bool, ◌&&◌, Option, None, Some, length, option_map, option_and_then, if◌then◌else◌}
use Rattle.std.specs.Option.{is_some}
use Rattle.rst_text.specs.Characters.{Text, has, is_alnum_at}
use Rattle.rst_text.specs.Places.{last_from, all_from}
use Rattle.rst_text.specs.SimpleNames.{is_name_at, name_stop}
use Rattle.rst_inline_scan.specs.declared.piece.Tail.{Tail}
use Rattle.rst_inline_scan.specs.Tails.{name_tail}
use Rattle.rst_inline_scan.specs.declared.piece.Kind.TheVariants.{Reference}
use Rattle.rst_inline_scan.specs.declared.piece.Piece.{Piece}

-- ---- roles

-- the place after the colon that closes a role, if one is at the end of its name
abbrev pub after_colon : Text → ℕ → Option ℕ
after_colon t e = if has t e 58 then Some (e + 1) else None

-- the place after a role, a simple name between colons, that begins at the place
unfoldable pub role_end : Text → ℕ → Option ℕ
role_end t i = if has t i 58 then option_and_then (after_colon t) (name_stop t (i + 1)) else None

-- ---- references: the longest simple name that fits, and one underscore or two

-- a name may end before the place: underscores that fit are at it, and a letter or a number before it
unfoldable pub ends_name : Text → ℕ → Bool
ends_name t j = is_some (name_tail t j) && is_alnum_at t (j - 1)

-- a reference begins at the place: its simple name ends at j, and underscores that fit follow it
unfoldable pub is_reference : Text → ℕ → ℕ → Bool
is_reference t i j = ends_name t j && (is_alnum_at t i && all_from (is_name_at t) i (j - i))

-- the end of the longest simple name that begins at the place and has underscores after it that fit
unfoldable pub name_end : Text → ℕ → Option ℕ
name_end t i = last_from (is_reference t i) (i + 1) (length t - (i + 1))

-- the reference from i on whose name ends at j and has this after it
abbrev pub reference_piece : ℕ → ℕ → Tail → Piece
reference_piece i j tail = record { kind = Reference tail.suffix; from = i; content_from = i; content_to = j; to = tail.to }

-- the reference from i on whose name ends at j, where underscores that fit follow it
abbrev pub reference_to : Text → ℕ → ℕ → Option Piece
reference_to t i j = option_map (reference_piece i j) (name_tail t j)

-- the reference by a simple name that begins at the place, if one does
unfoldable pub reference : Text → ℕ → Option Piece
reference t i = option_and_then (reference_to t i) (name_end t i)
