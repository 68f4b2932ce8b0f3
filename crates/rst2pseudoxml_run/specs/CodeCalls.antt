-- Lines in which program code may be called: by `code` or `code-block` directly before two colons, or before a space and two colons. Each
-- of the names of the directive ends in one of the two (Directives, 'Code').
use Rattle.std.specs.Prelude.{◌≡◌, ℕ, Bool, false, ◌&&◌, ◌||◌, ◌==◌, List, [], ◌∷◌, drop, codes}
use Rattle.std.specs.Char.{to_ascii_lowercase}
use Rattle.std.specs.List.{AllByRecursion}
use Rattle.rst_text.specs.Block.{Line, Block}
use Rattle.rst_markup_lines.specs.TextStart.{begins_with}

-- a text begins with two colons
abbrev pub begins_colons : List ℕ → Bool
begins_colons t = begins_with 58 t && begins_with 58 (drop 1 t)

-- a text begins with two colons, or with a space and two colons
unfoldable pub begins_call : List ℕ → Bool
begins_call t = begins_colons t || (begins_with 32 t && begins_colons (drop 1 t))

-- a text begins with the word, without regard to the case of letters of ASCII, and the rest with a call
abbrev pub is_called : List ℕ → List ℕ → Bool
is_called [] t = begins_call t
is_called (w ∷ ws) [] = false
is_called (w ∷ ws) (c ∷ cs) = (to_ascii_lowercase c == w) && is_called ws cs

-- a text begins with a call of program code
unfoldable pub begins_code : List ℕ → Bool
begins_code t = is_called (codes "code") t || is_called (codes "code-block") t

-- a text contains a call of program code: the text, or what is left of it after some characters, begins with one
abbrev pub holds_code : List ℕ → Bool
holds_code [] = false
holds_code (c ∷ cs) = begins_code (c ∷ cs) || holds_code cs

-- no line of a block contains one
abbrev pub IsWithoutCode : Block → Type 0
IsWithoutCode B = AllByRecursion (λ (l : Line). holds_code l.text ≡ false) B
