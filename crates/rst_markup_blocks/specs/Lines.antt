-- Lines at the front of a block that pass a test (Markup Specification, 'Indentation', 'Literal Blocks', 'Grid Tables').
use Rattle.std.specs.Prelude.{ℕ, suc, Bool, not, List, [], ◌∷◌, if◌then◌else◌}
use Rattle.rst_text.specs.Block.{Block, is_blank}
use Rattle.rst_markup_lines.specs.TextStart.{begins_with, is_loose}
use Rattle.rst_markup_blocks.specs.declared.lines.LineTest.{LineTest}
use Rattle.rst_markup_blocks.specs.declared.lines.LineTest.TheVariants.{Blank, Filled, Indented, Plain, Begins, Drawn}
use Rattle.rst_markup_blocks.specs.TableLines.{is_drawn}

-- a line passes a test: it is blank, or isn't; it is indented, or is neither indented nor blank; it begins with a
-- character; or it may belong to a grid table
abbrev pub passes : LineTest → List ℕ → Bool
passes Blank t = is_blank t
passes Filled t = not (is_blank t)
passes Indented t = begins_with 32 t
passes Plain t = not (is_loose t)
passes (Begins c) t = begins_with c t
passes Drawn t = is_drawn t

-- how many lines at the front pass
unfoldable pub lines_while : LineTest → Block → ℕ
lines_while test [] = 0
lines_while test (l ∷ ls) = if passes test l.text then suc (lines_while test ls) else 0
