-- Line blocks (Markup Specification, 'Line Blocks').
use Rattle.std.specs.Prelude.{◌≡◌, ℕ, zero, suc, min, List, [], ◌∷◌, map, unwrap_or, nat_lt, if◌then◌else◌, Result, Ok, Err, string_bytes}
use Rattle.std.specs.List.{reduce, prefix_len, flat_map}
use Rattle.std.specs.Str.{chars}
use Rattle.rst_settings.specs.declared.Parts.{Parts}
use Rattle.rst_tree.specs.declared.node.Node.{Node}
use Rattle.rst_tree.specs.declared.tag.Tag.TheVariants.{Line, LineBlock}
use Rattle.rst_block_nodes.specs.declared.line_blocks.BarText.{BarText}
use Rattle.rst_block_nodes.specs.declared.fault.BlockFault.{BlockFault}
use Rattle.rst_block_nodes.specs.declared.fault.BlockFault.TheVariants.{TooDeep, NoMemory}
use Rattle.rst_block_nodes.specs.declared.texted.Texted.{Texted}
use Rattle.rst_block_nodes.specs.Elements.{element_of}
use Rattle.rst_block_nodes.specs.Numbered.{Numbered, ◌>>=◌, just, each}
use Rattle.rst_block_nodes.specs.Readings.{texted}

-- ---- lines

-- a line of a line block: its indentation, its number, the number of the line in which its text begins, and its text, in which e-mail addresses
-- may be asked for
pub record IndentedLine : Type 0 where
  pub indent : ℕ
  pub line : ℕ
  pub text_line : ℕ
  pub text : List ℕ
  pub parts : Parts

-- the least indentation of lines, 0 where there is none
abbrev pub least_indent : List IndentedLine → ℕ
least_indent ls = unwrap_or (reduce min (map (λ (l : IndentedLine). l.indent) ls)) 0

-- the number of the first of some lines, 0 where there is none
abbrev pub first_line : List IndentedLine → ℕ
first_line [] = 0
first_line (l ∷ ls) = l.line

-- ---- line blocks in line blocks

-- a part of a line block: a line of its least indentation, or neighbouring lines that are all deeper
pub data LinePart : Type 0 where
  level_line : IndentedLine → LinePart
  deeper_lines : List IndentedLine → LinePart

-- a deeper line before parts: it is in one part with deeper lines that follow it directly
abbrev pub with_deeper : IndentedLine → List LinePart → List LinePart
with_deeper l [] = deeper_lines (l ∷ []) ∷ []
with_deeper l (level_line m ∷ parts) = deeper_lines (l ∷ []) ∷ level_line m ∷ parts
with_deeper l (deeper_lines ms ∷ parts) = deeper_lines (l ∷ ms) ∷ parts

-- the parts of lines of which this is the least indentation
abbrev pub line_parts : ℕ → List IndentedLine → List LinePart
line_parts least [] = []
line_parts least (l ∷ ls) = if nat_lt least l.indent then with_deeper l (line_parts least ls) else level_line l ∷ line_parts least ls

-- what a part gives: a line its element and the messages on its text, deeper lines a line block inside
abbrev pub part_node : (List IndentedLine → Numbered (Node × List Node)) → LinePart → Numbered (Node × List Node)
part_node inner (level_line l) = texted l.parts Line l.line l.text l.text_line
part_node inner (deeper_lines ls) = inner ls

-- The line block of some lines, and the messages on all their texts, where this many line blocks may be nested, the outermost included. One that
-- is nested deeper is refused with the number of its first line.
abbrev pub line_block : ℕ → List IndentedLine → Numbered (Node × List Node)
line_block zero ls = λ number. Err (first_line ls)
line_block (suc levels) ls = do
  made ← each (part_node (line_block levels)) (line_parts (least_indent ls) ls)
  just (element_of LineBlock [] (map (λ (m : Node × List Node). m.0) made) (first_line ls), flat_map (λ (m : Node × List Node). m.1) made)

-- how many lines at the front are deeper
abbrev pub deeper_len : ℕ → List IndentedLine → ℕ
deeper_len least ls = prefix_len (λ (l : IndentedLine). nat_lt least l.indent) ls

-- ---- as they are kept

-- a line with this indentation
abbrev pub indented_by : ℕ → BarText → IndentedLine
indented_by indent bar = record { indent = indent; line = bar.line; text_line = bar.text_line; text = chars (string_bytes bar.text); parts = bar.parts }

-- lines after one of this indentation: a line without text after its bar takes the indentation of the line before it
abbrev pub indented_from : ℕ → List BarText → List IndentedLine
indented_from last [] = []
indented_from last (bar ∷ bars) = indented_by (unwrap_or bar.indent last) bar ∷ indented_from (unwrap_or bar.indent last) bars

-- the lines of a line block; the first is not indented if it has no text after its bar
abbrev pub indented : List BarText → List IndentedLine
indented bars = indented_from 0 bars

-- ---- calls that may be refused (no rule of markup)

-- What is made where this is read: its element and its messages, and then the next message has this number; or it is nested too deeply; or memory
-- ran out.
abbrev pub MakesLineBlock : Result ((Node × List Node) × ℕ) ℕ → ℕ → Result Texted BlockFault → Type 0
MakesLineBlock read next (Ok made) = read ≡ Ok ((made.element, made.notes.items), next)
MakesLineBlock read next (Err (TooDeep line)) = read ≡ Err line
MakesLineBlock read next (Err NoMemory) = Unit {0}
