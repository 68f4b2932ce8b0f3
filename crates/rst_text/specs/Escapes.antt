-- Escapes by backslashes (Markup Specification, 'Escaping Mechanism').
use Rattle.std.specs.Prelude.{ℕ, zero, suc, Bool, false, not, ◌&&◌, ◌==◌, nat_le, [], ◌∷◌, slice_index, if◌then◌else◌}
use Rattle.std.specs.List.{list_any}
use Rattle.rst_text.specs.Characters.{is_white, Text}

-- the character c escapes the one after it: it is a backslash, and `escaped` is false: it isn't escaped itself
abbrev pub escapes : ℕ → Bool → Bool
escapes c escaped = c == 92 && not escaped

-- an odd number of backslashes comes directly before the place, counted back no further than to `from`
unfoldable pub is_escaped : Text → ℕ → ℕ → Bool
is_escaped t from zero = false
is_escaped t from (suc i) = nat_le from i && escapes (slice_index t i) (is_escaped t from i)

-- The text without its escapes: a backslash and white after it vanish, another character after one stays, and a last
-- backslash vanishes.
abbrev pub unescaped : Text → Text
unescaped [] = []
unescaped (c ∷ []) = if c == 92 then [] else c ∷ []
unescaped (c ∷ d ∷ cs) = if c == 92 then (if is_white d then unescaped cs else d ∷ unescaped cs) else c ∷ unescaped (d ∷ cs)

-- there is a backslash in the text
abbrev pub has_backslash : Text → Bool
has_backslash t = list_any (λ c. c == 92) t
