-- Paragraphs, the literal blocks that they announce, and doctest blocks (Markup Specification, 'Paragraphs', 'Literal Blocks', 'Doctest
-- Blocks').
use Rattle.std.specs.Prelude.{ℕ, ◌-◌, ◌||◌, ◌==◌, nat_lt, List, [], ◌∷◌, ◌++◌, drop, take, length, codes, Option, Some, None, if◌then◌else◌}
use Rattle.std.specs.Str.{drop_trailing_whitespace}
use Rattle.rst_settings.specs.declared.Parts.{Parts}
use Rattle.rst_text.specs.Block.{Block, first_text, first_number, is_blank, first_parts}
use Rattle.rst_text.specs.Extent.{extent}
use Rattle.rst_tree.specs.declared.node.Node.{Node}
use Rattle.rst_tree.specs.declared.note.Level.TheVariants.{Warning, Error}
use Rattle.rst_tree.specs.declared.tag.Tag.TheVariants.{Paragraph, LiteralBlock, DoctestBlock}
use Rattle.rst_markup_lines.specs.Adornment.{is_punctuation}
use Rattle.rst_markup_lines.specs.Closing.{ends_in_colons}
use Rattle.rst_markup_lines.specs.TextStart.{first, begins_with}
use Rattle.rst_markup_blocks.specs.Lines.{lines_while}
use Rattle.rst_markup_blocks.specs.Partition.{Span}
use Rattle.rst_markup_blocks.specs.Sizes.{paragraph_len}
use Rattle.rst_markup_blocks.specs.declared.lines.LineTest.TheVariants.{Blank, Begins}
use Rattle.rst_block_nodes.specs.Elements.{preserved_node}
use Rattle.rst_block_state.specs.Numbered.{Numbered, ◌>>=◌, just}
use Rattle.rst_block_state.specs.Texts.{joined, lines_in, system_message, span_source, spelled, texted, unless_blank, warned}
use Rattle.rst_block_state.specs.Within.{indented_part}

-- ---- literal blocks

-- lines as a literal block, with their indentation
abbrev pub literal_node : Block → Node
literal_node Z = preserved_node LiteralBlock (first_number Z) (spelled Z)

-- an indented literal block, with which Z begins, and the WARNING where no blank line follows it
abbrev pub indented_literal : Block → List Node
indented_literal Z =
    preserved_node LiteralBlock (first_number Z) (spelled (lines_in Z (indented_part 0 Z)))
    ∷ warned (codes "Literal block ends without a blank line; unexpected unindent.") (drop (extent 1 Z) Z)

-- the text of the ERROR at a line that follows a quoted literal block directly
abbrev pub quoting_text : List ℕ → List ℕ
quoting_text t = if begins_with 32 t then codes "Unexpected indentation." else codes "Inconsistent literal block quoting."

-- a quoted literal block: the n lines with which Z begins, and the ERROR where no blank line follows them
abbrev pub quoted_literal : ℕ → Block → List Node
quoted_literal n Z = literal_node (take n Z) ∷ unless_blank Error (quoting_text (first_text (drop n Z))) (drop n Z)

-- the WARNING where there is no literal block: at the next line that isn't blank, with which Z begins, or else at the paragraph's last line
abbrev pub no_literal : ℕ → Block → List Node
no_literal last [] = system_message Warning last (codes "Literal block expected; none found.") ∷ []
no_literal last (l ∷ ls) = system_message Warning l.number (codes "Literal block expected; none found.") ∷ []

-- The literal block with which Z begins, by the first character of Z: an indented block, or the lines that begin with that character if it is
-- punctuation.
abbrev pub literal_by : Option ℕ → ℕ → Block → List Node
literal_by None last Z = no_literal last Z
literal_by (Some c) last Z =
    if c == 32 then indented_literal Z
    else if is_punctuation c then quoted_literal (lines_while (Begins c) Z) Z
    else no_literal last Z

-- the literal block after a paragraph whose last line has this number; blank lines may come before it
abbrev pub literal_nodes : ℕ → Block → List Node
literal_nodes last Y = let Z = drop (lines_while Blank Y) Y in literal_by (first (first_text Z)) last Z

-- ---- paragraphs

-- what is left of a text that ends in two colons, by the text before them: both colons go with the whitespace before them where whitespace or
-- nothing comes before them, else one colon goes
abbrev pub without_colons : List ℕ → List ℕ
without_colons before = let bare = drop_trailing_whitespace before in
    if nat_lt (length bare) (length before) || is_blank bare then bare else before ++ 58 ∷ []

-- what a paragraph contains of its text: one that ends in two colons announces a literal block
abbrev pub announced : List ℕ → List ℕ
announced t = if ends_in_colons t then without_colons (take (length t - 2) t) else t

-- a paragraph with a text, and the messages on the text; one without a text vanishes
abbrev pub text_paragraph : Parts → ℕ → List ℕ → Numbered (List Node)
text_paragraph parts line [] = just []
text_paragraph parts line (c ∷ cs) = do
  made ← texted parts Paragraph line (c ∷ cs) line
  just (made.0 ∷ made.1)

-- what comes after a paragraph of n lines with this text, with which X begins: the ERROR at an indented line that follows it directly, and then
-- the literal block that it announces
abbrev pub after_paragraph : ℕ → List ℕ → Block → List Node
after_paragraph n t X =
    unless_blank Error (codes "Unexpected indentation.") (drop n X)
    ++ (if ends_in_colons t then literal_nodes (first_number (drop (n - 1) X)) (drop n X) else [])

-- the paragraph with which X begins, after the messages that explain why its line is a text: its text runs to the next blank or indented line
abbrev pub paragraph_nodes : List Node → Block → Numbered (List Node)
paragraph_nodes infos X = do
  nodes ← text_paragraph (first_parts X) (first_number X) (announced (joined (take (paragraph_len X) X)))
  just (infos ++ nodes ++ after_paragraph (paragraph_len X) (joined (take (paragraph_len X) X)) X)

-- ---- doctest blocks

-- a doctest block: its lines as they are
abbrev pub doctest_node : Block → Span → Node
doctest_node B s = preserved_node DoctestBlock (first_number (drop s.start B)) (span_source B s)
