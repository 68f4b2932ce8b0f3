-- A message as it is written to standard error. No rule of markup: it is the form of Docutils (Configuration, 'report_level', defines
-- which are reported).
use Rattle.std.specs.Prelude.{List, ℕ, [], ◌++◌, codes, Option, Some, None}
use Rattle.std.specs.Fmt.{decimal}
use Rattle.rst_tree.specs.declared.note.Note.{Note}
use Rattle.rst_tree.specs.LevelNames.{level_name, level_number}

-- `source:line: (TYPE/level) `
abbrev pub message_head : List ℕ → Note → List ℕ
message_head source note =
    source ++ codes ":" ++ decimal note.line ++ codes ": (" ++ level_name note.level ++ codes "/" ++ decimal (level_number note.level) ++ codes ") "

-- a blank line and the source text, or nothing where there is none
abbrev pub block_text : Option (List ℕ) → List ℕ
block_text None = []
block_text (Some text) = codes "\n" ++ text ++ codes "\n"

-- the message with its line ends
abbrev pub message_of : List ℕ → Note → List ℕ
message_of source note = message_head source note ++ note.text ++ codes "\n" ++ block_text note.block
