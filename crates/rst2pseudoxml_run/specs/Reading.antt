-- The document that an input is (Markup Specification, 'Syntax Details'; Configuration, `line_length_limit`).
use Rattle.std.specs.Prelude.{◌≡◌, ℕ, ◌≤◌, List, [], ◌∷◌, ◌++◌, Option, None, Some, Result, Ok, Err, codes, encode_utf8_all}
use Rattle.std.specs.Fmt.{decimal}
use Rattle.std.specs.Str.Lossy.{utf8_valid_len}
use Rattle.rst_tree_index.specs.declared.parsed.Parsed.{Parsed}
use Rattle.rst_block_state.specs.Documents.{document}
use Rattle.rst_settings.specs.Profile.{Profile}
use Rattle.rst_settings.specs.Parts.{no_parts}
use Rattle.rst_settings.specs.declared.Parts.{Parts}
use Rattle.rst_settings.specs.declared.Settings.{Settings}
use Rattle.rst_text.specs.Block.{Block}
use Rattle.rst_text.specs.Lines.{first_longer, lines_of}
use Rattle.rst2pseudoxml_run.specs.Marks.{parts_in}
use Rattle.rst_text.specs.Text.{text_of}
use Rattle.rst_transform.specs.Finishing.{leaves}
use Rattle.rst_transform_messages.specs.Messages.{highest_level}
use Rattle.rst_transform.specs.declared.finishing.Finished.{Finished}
use Rattle.rst_tree.specs.Messages.{note_node}
use Rattle.rst_tree.specs.Nodes.{forest_of}
use Rattle.rst_tree.specs.declared.node.Node.{Node}
use Rattle.rst_tree.specs.declared.node.Node.TheVariants.{Element}
use Rattle.rst_tree.specs.declared.note.Level.TheVariants.{Error}
use Rattle.rst_tree.specs.declared.note.Note.{Note}
use Rattle.rst_tree.specs.declared.tag.Tag.TheVariants.{Document}
use Rattle.rst2pseudoxml_run.specs.declared.end.End.{End}
use Rattle.rst2pseudoxml_run.specs.declared.end.End.TheVariants.{NotUtf8, TooDeep, NoMemory}

-- that the line of a number is too long (Configuration, `line_length_limit`)
abbrev pub long_text : ℕ → List ℕ
long_text line = codes "Line " ++ decimal line ++ codes " exceeds the line-length-limit."

abbrev pub long_message : ℕ → Node
long_message line = note_node (record { level = Error; line = line; text = long_text line; block = None })

-- a document with nothing but that message
abbrev pub long_document : ℕ → Node
long_document line = Element Document [] (forest_of (long_message line ∷ [])) 0

-- What is read of the lines of a text where this one of them is too long, if one is: a document with a message on that and nothing else, or the
-- document of the lines; with it how many numbers the messages on its texts have. Or the number of the line at which blocks are nested
-- too deeply.
abbrev pub read_by : Option ℕ → Profile → Block → Result (Node × ℕ) ℕ
read_by None profile lines = document profile lines 0
read_by (Some line) profile lines = Ok (long_document line, 0)

abbrev pub read_of : Profile → Block → Result (Node × ℕ) ℕ
read_of profile lines = read_by (first_longer profile.line_limit lines) profile lines

-- the parts of the wider profile that hold in a text, if there is one: those that are asked for and whose mark it holds
abbrev pub held_parts : Parts → Option (List ℕ) → Parts
held_parts asked None = no_parts
held_parts asked (Some text) = parts_in asked (encode_utf8_all text)

-- the settings with these parts: a document is read, finished and printed under them
abbrev pub held : Settings → Option (List ℕ) → Settings
held settings text = record settings { parts = held_parts settings.parts text }

-- the lines of a text
abbrev pub lines_under : Settings → List ℕ → Block
lines_under settings text = lines_of settings.parts settings.tab text

-- what is read of a text, if there is one
abbrev pub IsReadOf : Profile → Settings → Option (List ℕ) → Result (Node × ℕ) ℕ → Type 0
IsReadOf profile settings None read = ⊥
IsReadOf profile settings (Some text) read = read_of profile (lines_under settings text) ≡ read

-- the bytes are refused on this ground, or memory ran out
abbrev pub Refuses : Profile → Settings → List ℕ → End → Type 0
Refuses profile settings bytes (NotUtf8 at) = (text_of bytes ≡ None) × (at ≡ utf8_valid_len bytes)
Refuses profile settings bytes (TooDeep line) = let text = text_of bytes in IsReadOf profile (held settings text) text (Err line)
Refuses profile settings bytes NoMemory = Unit {0}
Refuses profile settings bytes _ = ⊥

-- a document was read of the bytes under the settings that hold in their text, or they were refused, or memory ran out
abbrev pub Parses : Profile → Settings → List ℕ → Result (Parsed × Settings) End → Type 0
Parses profile settings bytes (Ok parsed) =
    let text = text_of bytes in (parsed.1 ≡ held settings text) × IsReadOf profile (held settings text) text (Ok (parsed.0.tree, parsed.0.messages))
Parses profile settings bytes (Err end) = Refuses profile settings bytes end

-- a document and messages are left of the document that is read of a text
abbrev pub IsLeftOf : Profile → Settings → Option (List ℕ) → Node → List Note → Type 0
IsLeftOf profile settings text document notes =
    (read : Node × ℕ) × IsReadOf profile settings text (Ok read) × (leaves read.1 profile settings read.0 ≡ (document, notes))

-- the finished document of a text, and its messages with their highest level
abbrev pub IsMade : Profile → Settings → Option (List ℕ) → Finished → Type 0
IsMade profile settings text finished =
    let notes = finished.notes.items in
    IsLeftOf profile settings text finished.tree notes × (finished.highest ≡ highest_level notes) × (finished.highest ≤ 4)

-- a document was made of the bytes, or they were refused, or memory ran out
abbrev pub Reads : Profile → Settings → List ℕ → Result Finished End → Type 0
Reads profile settings bytes (Ok finished) = let text = text_of bytes in IsMade profile (held settings text) text finished
Reads profile settings bytes (Err end) = Refuses profile settings bytes end
