use Rattle.std.proofs.Common.{◌≡◌, ◌++◌, None, length, map}
use denote.Text.{Utf8}
use denote.Shadow.{shadow}
use Rattle.std.specs.Str.{chars}
use Rattle.rst_text.specs.Lines.{first_longer, numbered_from, pieces, tidied}
use Rattle.rst_text.proofs.lines.Lines.within.Given as goal

-- The texts so far, and those of the rest, are those of the whole text. None of those so far is too long.
abbrev pub invariant-loop-rest : goal.invariant-loop-rest
invariant-loop-rest l =
    shadow (Utf8 l.rest) × (l.kept ++ map (tidied l.fn.tab) (pieces (chars l.rest)) ≡ map (tidied l.fn.tab) (pieces (chars l.text)))
    × (first_longer l.limit (numbered_from l.parts 1 l.kept) ≡ None)

abbrev pub decreases-loop-rest : goal.decreases-loop-rest
decreases-loop-rest l = length l.rest
