-- Texts, step by step: of lines of a line block and of paragraphs. No rule of markup: it is what their definitions give, part by part.
use Rattle.std.specs.Prelude.{ℕ, Bool, ◌+◌, ◌-◌, List, [], ◌∷◌, ◌++◌, drop, map, codes, if◌then◌else◌}
use Rattle.std.specs.List.{join_with_byte}
use Rattle.rst_text.specs.Block.{Line, Block, first_number, first_parts}
use Rattle.rst_tree.specs.declared.node.Node.{Node}
use Rattle.rst_tree.specs.declared.note.Level.TheVariants.{Error}
use Rattle.rst_markup_lines.specs.Closing.{ends_in_colons}
use Rattle.rst_markup_blocks.specs.Sizes.{literal_size}
use Rattle.rst_markup_blocks.specs.declared.form.TextForm.{TextForm}
use Rattle.rst_markup_blocks.specs.declared.form.TextForm.TheVariants.{ShortUnderline}
use Rattle.rst_block_state.specs.Constructs.{short_underline}
use Rattle.rst_block_state.specs.Literals.{announced, text_paragraph, after_paragraph}
use Rattle.rst_block_state.specs.Numbered.{Numbered, ◌>>=◌, just}
use Rattle.rst_block_state.specs.Texts.{unless_blank}

-- ---- lines of a line block

-- the text of a line and of those below it
abbrev pub text_over : List ℕ → Block → List ℕ
text_over first below = join_with_byte 10 (first ∷ map (λ (l : Line). l.text) below)

-- ---- paragraphs

-- a paragraph of a text, from line i of a block up to line j, and the ERROR at an indented line that follows directly
abbrev pub paragraph_with_text : List ℕ → ℕ → ℕ → Block → Numbered (List Node)
paragraph_with_text t i j B = do
  nodes ← text_paragraph (first_parts (drop i B)) (first_number (drop i B)) t
  just (nodes ++ unless_blank Error (codes "Unexpected indentation.") (drop j B))

-- a paragraph whose lines have this text, from line i of a block up to line j, and what comes after it
abbrev pub paragraph_between : List ℕ → ℕ → ℕ → Block → Numbered (List Node)
paragraph_between t i j B = do
  nodes ← text_paragraph (first_parts (drop i B)) (first_number (drop i B)) (announced t)
  just (nodes ++ after_paragraph (j - i) t (drop i B))

-- the place after a paragraph that ends at line j and has this text, and after the literal block that it announces
abbrev pub paragraph_end : List ℕ → ℕ → Block → ℕ
paragraph_end t j B = j + (if ends_in_colons t then literal_size (drop j B) else 0)

-- ---- forms of a text

-- the messages that come with a paragraph whose text has a form, after those that explain why it is a text
abbrev pub form_notes : TextForm → Bool → Block → List Node
form_notes ShortUnderline titles X = short_underline titles X
form_notes _ titles X = []
