-- Attributions (Markup Specification, 'Block Quotes').
use Rattle.std.specs.Prelude.{ℕ, ◌+◌, ◌||◌, ◌==◌, List, drop, if◌then◌else◌, Option, None, Some}
use Rattle.rst_text.specs.Block.{is_blank, indentation}
use Rattle.rst_markup_lines.specs.TextStart.{begins_with, unindented}
use Rattle.rst_markup_lines.specs.Class.{run}
use Rattle.rst_markup_lines.specs.declared.class.Class.TheVariants.{Only}

-- two or three hyphens are a dash, and no other number of them is
abbrev pub two_or_three : ℕ → ℕ
two_or_three n = if n == 2 || n == 3 then n else 0

-- `--`, `---` with no further `-`, or U+2014
unfoldable pub dash_len : List ℕ → ℕ
dash_len t = if begins_with 0x2014 t then 1 else two_or_three (run (Only 45) t)

-- how many characters a dash of n characters has with the spaces after it, if text follows these
abbrev pub after_dash : ℕ → List ℕ → Option ℕ
after_dash n t =
    if n == 0 then None
    else if is_blank (unindented (drop n t)) then None
    else Some (n + indentation (drop n t))

-- a dash, maybe spaces, and then text: how many characters come before that
unfoldable pub attribution_of : List ℕ → Option ℕ
attribution_of t = after_dash (dash_len t) t
