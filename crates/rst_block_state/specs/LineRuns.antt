-- Line blocks (Markup Specification, 'Line Blocks'; Directives, 'Line Block').
use Rattle.std.specs.Prelude.{ℕ, ◌+◌, ◌-◌, List, [], ◌∷◌, ◌++◌, drop, slice_range, if◌then◌else◌}
use Rattle.std.specs.List.{prefix_len}
use Rattle.rst_text.specs.Block.{Block, Line, first_number, cut, first_parts, is_blank}
use Rattle.rst_text.specs.Characters.{is_white}
use Rattle.rst_tree.specs.declared.node.Node.{Node}
use Rattle.rst_markup_lines.specs.declared.marker.Marker.{Marker}
use Rattle.rst_markup_blocks.specs.Partition.{Span}
pub use Rattle.rst_block_nodes.specs.LineBlocks.{IndentedLine, line_block}
use Rattle.rst_block_state.specs.Constructs.{Construct, Found, bar_line}
use Rattle.rst_block_state.specs.Numbered.{Numbered, ◌>>=◌, just}
use Rattle.rst_block_state.specs.Texts.{joined, lines_in}
use Rattle.rst_block_state.specs.Within.{Within, indented_part}

-- ---- lines

-- the indented lines below a bar, without their least indentation
abbrev pub below_bar : Block → Span → Block
below_bar B s = let Y = slice_range B (s.start + 1) s.stop in lines_in Y (indented_part 0 Y)

-- the lines of the text: the rest of the bar's line, unless the bar is alone in it, and the indented lines below
abbrev pub bar_lines : Block → Marker → Span → Block
bar_lines B m s = if m.bare then below_bar B s else cut B s.start (s.start + 1) m.cut 0 ++ below_bar B s

-- the number of the first of some lines, or another where there are none
abbrev pub number_or : ℕ → Block → ℕ
number_or line [] = line
number_or line (l ∷ ls) = l.number

-- the indentation of a line: the number of spaces after its bar, less 1; an empty line takes that of the line before
abbrev pub indentation_of : ℕ → Marker → ℕ
indentation_of last m = if m.bare then last else m.cut - 2

-- the line of this indentation that has this marker
abbrev pub indented_line : ℕ → Block → Marker → Span → IndentedLine
indented_line indent B m s = record {
  indent = indent;
  line = first_number (drop s.start B);
  text_line = number_or (first_number (drop s.start B)) (bar_lines B m s);
  text = joined (bar_lines B m s);
  parts = first_parts (drop s.start B);
}

-- a line before others, which take its indentation where they have none; all constructs of such a run are lines
abbrev pub line_before : Construct → Block → Span → ℕ → (ℕ → List IndentedLine) → List IndentedLine
line_before (bar_line m) B s last others = indented_line (indentation_of last m) B m s ∷ others (indentation_of last m)
line_before _ B s last others = others last

-- the lines of a run, after one of this indentation
abbrev pub indented_lines : Block → ℕ → List Found → List IndentedLine
indented_lines B last [] = []
indented_lines B last (f ∷ fs) = line_before f.what B f.span last (λ now. indented_lines B now fs)

-- ---- lines without bars

-- how many white characters a text begins with
abbrev pub white_len : List ℕ → ℕ
white_len t = prefix_len is_white t

-- the indentation of a line of verse, which is that of the line before where it is empty
abbrev pub verse_indent : ℕ → Line → ℕ
verse_indent last l = if is_blank l.text then last else white_len l.text

-- a line of verse after one of this indentation
abbrev pub verse_line : ℕ → Line → IndentedLine
verse_line last l =
    record { indent = verse_indent last l; line = l.number; text_line = l.number; text = drop (white_len l.text) l.text; parts = l.parts }

-- lines of verse after one of this indentation
abbrev pub verse_lines : ℕ → Block → List IndentedLine
verse_lines last [] = []
verse_lines last (l ∷ ls) = verse_line last l ∷ verse_lines (verse_indent last l) ls

-- ---- line blocks

-- the line block of a run of lines; the messages on all its texts come after it
abbrev pub line_nodes : Within → Block → List Found → Numbered (List Node)
line_nodes c B fs = do
  made ← line_block c.levels (indented_lines B 0 fs)
  just (made.0 ∷ made.1)
