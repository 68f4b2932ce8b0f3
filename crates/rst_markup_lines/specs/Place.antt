-- Places of characters in their line. No rule of markup: by them a mark records where its parts are.
use Rattle.std.specs.Prelude.{ℕ, ◌+◌, ◌≤◌}
use Rattle.rst_markup_lines.specs.declared.place.Characters.{Characters}

-- len characters after others
abbrev pub place_of : ℕ → ℕ → Characters
place_of from len = record { from = from; to = from + len }

-- a place is within n characters
abbrev pub IsIn : ℕ → Characters → Type 0
IsIn n place = (place.from ≤ place.to) × (place.to ≤ n)
