-- The pieces of a text, found from left to right (Markup Specification, 'Inline markup recognition rules').
use Rattle.std.specs.Prelude.{ℕ, zero, suc, ◌-◌, Bool, nat_lt, List, [], ◌∷◌, ◌++◌, length, Option, Some, None, is_some, if◌then◌else◌}
use Rattle.rst_text.specs.Places.{first_from}
use Rattle.rst_text.specs.Characters.{Text}
use Rattle.rst_inline_scan.specs.Pieces.{piece_at, plain_from}
use Rattle.rst_inline_scan.specs.declared.piece.Piece.{Piece}

-- the least start at or after a place, where plain text begins
abbrev pub next_start : Bool → Bool → Text → ℕ → Option ℕ
next_start mail registered t from = first_from (λ i. is_some (piece_at mail registered t from i)) from (length t - from)

-- a plain piece, unless it is empty
abbrev pub plain_if : ℕ → ℕ → List Piece
plain_if from to = if nat_lt from to then plain_from from to ∷ [] else []

-- a piece, and those after it
abbrev pub piece_then : Option Piece → (ℕ → List Piece) → List Piece
piece_then None others = []
piece_then (Some p) others = p ∷ others p.to

-- the plain piece up to the next start, the piece that begins there, and those after it
abbrev pub pieces_by : Bool → Bool → Text → ℕ → Option ℕ → (ℕ → List Piece) → List Piece
pieces_by mail registered t from None others = plain_if from (length t)
pieces_by mail registered t from (Some i) others = plain_if from i ++ piece_then (piece_at mail registered t from i) others

-- the pieces from a place on, with at most this many starts
abbrev pub pieces_from : Bool → Bool → Text → ℕ → ℕ → List Piece
pieces_from mail registered t zero from = []
pieces_from mail registered t (suc n) from = pieces_by mail registered t from (next_start mail registered t from) (λ next. pieces_from mail registered t n next)

-- the pieces of a text, which has no more starts than characters
unfoldable pub pieces_of : Bool → Bool → Text → List Piece
pieces_of mail registered t = pieces_from mail registered t (suc (length t)) 0
