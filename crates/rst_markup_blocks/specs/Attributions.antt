-- Attributions of block quotes (Markup Specification, 'Block Quotes'), on a block whose first line an attribution begins
-- in; that line is at place k.
use Rattle.std.specs.Prelude.{ℕ, ◌+◌, ◌==◌, drop, take, if◌then◌else◌, Option, None, Some}
use Rattle.std.specs.List.{list_all}
use Rattle.rst_text.specs.Block.{Block, first_text, indentation}
use Rattle.rst_markup_lines.specs.Attribution.{attribution_of}
use Rattle.rst_markup_blocks.specs.Conditions.{next_text}
use Rattle.rst_markup_blocks.specs.Lines.{lines_while}
use Rattle.rst_markup_blocks.specs.declared.attribution.Attribution.{Attribution}
use Rattle.rst_markup_blocks.specs.declared.lines.LineTest.TheVariants.{Filled}
use Rattle.rst_markup_blocks.specs.declared.part.Part.{Part}

-- how many lines there are up to a blank one, if each has this indentation
unfoldable pub level_lines : ℕ → Block → Option ℕ
level_lines n X = if list_all (λ l. indentation l.text == n) (take (lines_while Filled X) X) then Some (lines_while Filled X) else None

-- an attribution with n lines below its first, if they share one indentation
abbrev pub attribution_with : ℕ → ℕ → ℕ → Option ℕ → Option Attribution
attribution_with k marker indent None = None
attribution_with k marker indent (Some n) = Some (record { marker = marker; end = k + 1 + n; indent = indent })

-- where a mark of this many characters is in the line
unfoldable pub attribution_after : ℕ → ℕ → Block → Option Attribution
attribution_after k marker X = attribution_with k marker (indentation (next_text X)) (level_lines (indentation (next_text X)) (drop 1 X))

-- an attribution, if there is a mark of one
abbrev pub attribution_by : Option ℕ → ℕ → Block → Option Attribution
attribution_by None k X = None
attribution_by (Some marker) k X = attribution_after k marker X

-- a line that an attribution's mark begins, and the lines below it up to a blank one, which share one indentation
unfoldable pub attribution_at : ℕ → Block → Option Attribution
attribution_at k X = attribution_by (attribution_of (first_text X)) k X

-- the lines of its text, without the mark and the indentation
abbrev pub attribution_part : ℕ → Attribution → Part
attribution_part k a = record { from = k; to = a.end; first_cut = a.marker; rest_cut = a.indent }
