-- Texts that are written out, line by line, for worked examples. No rule of markup.
use Prim.Native.String.{String}
use Rattle.std.specs.Prelude.{ℕ, List, [], ◌∷◌, ◌++◌, flat_map, codes}
use Rattle.rst_settings.specs.Parts.{no_parts}
use Rattle.rst_text.specs.Block.{Block}
use Rattle.rst_text.specs.Lines.{lines_of}

-- lines as a text: each has a line feed at its end
abbrev pub written : List String → List ℕ
written lines = flat_map (λ line. codes line ++ 10 ∷ []) lines

-- lines as a block, from line 1 on
abbrev pub block : List String → Block
block lines = lines_of no_parts 8 (written lines)
