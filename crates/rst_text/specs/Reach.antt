-- How many lines have to be looked at to find where a construct ends. No rule of markup: it bounds the time.
use Rattle.std.specs.Prelude.{ℕ, suc, ◌+◌, [], ◌∷◌, drop, nat_le, if◌then◌else◌}
use Rattle.rst_text.specs.Block.{Block, indentation, is_blank}

-- how many lines are looked at to find an extent: all of them, and those after it through the one that stops it
unfoldable pub looked : ℕ → Block → ℕ
looked least [] = 0
looked least (l ∷ ls) =
    if is_blank l.text then suc (looked least ls)
    else if nat_le least (indentation l.text) then suc (looked least ls)
    else 1

-- how many blank lines a block begins with
unfoldable pub blank_len : Block → ℕ
blank_len [] = 0
blank_len (l ∷ ls) = if is_blank l.text then suc (blank_len ls) else 0

-- how many lines there are through the first that isn't blank; all of them, if there is none
unfoldable pub through_text : Block → ℕ
through_text [] = 0
through_text (l ∷ ls) = if is_blank l.text then suc (through_text ls) else 1

-- how many lines a construct of n lines at the front has, with those after it through the first that isn't blank
abbrev pub reach : ℕ → Block → ℕ
reach n X = n + through_text (drop n X)
