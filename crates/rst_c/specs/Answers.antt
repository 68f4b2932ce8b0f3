-- What the calls answer.
use Rattle.std.specs.Prelude.{◌≡◌, ◌⊎◌, ℕ, ◌≤◌, Bool, true, false, nat_lt, nat_le, if◌then◌else◌, List, [], ◌++◌, length, drop, map, filter, Option, None, Some, Result, Ok, Err}
use Rattle.std.specs.Str.{is_utf8}
use Rattle.std.specs.Str.Lossy.{utf8_valid_len}
use Rattle.rst_c.specs.Options.{SetsHandingIf, SetsIf}
use Rattle.rst_c.specs.declared.answer.Refusal.{Refusal}
use Rattle.rst_c.specs.declared.answer.Refusal.TheVariants.{Options, Source, Text}
use Rattle.rst_c.specs.declared.answer.RstResult.{RstResult}
use Rattle.rst_c.specs.declared.answer.Made.{Made}
use Rattle.rst_c.specs.declared.document.Form.{Form}
use Rattle.rst_c.specs.declared.document.Form.TheVariants.{DocumentJson, DocumentRecords, MessagesJson}
use Rattle.rst_c.specs.declared.options.RstOptions.{RstOptions}
use Rattle.rst_json.specs.Json.{json_array, json_node, json_node_of, json_note}
use Rattle.rst_json.specs.Records.{node_record, node_record_of}
use Rattle.rst_settings.specs.Profile.{profile_of}
use Rattle.rst_settings.specs.declared.Settings.{Settings}
use Rattle.rst_text.specs.Counted.{inner_of}
use Rattle.rst_text.specs.Text.{text_of}
use Rattle.rst_transform.specs.Finishing.{leaves}
use Rattle.rst_transform.specs.declared.finishing.Finished.{Finished}
use Rattle.rst_transform_messages.specs.Messages.{highest_level}
use Rattle.rst_tree.specs.PrintedAttributes.{with_printed_attrs}
use Rattle.rst_tree_index.specs.declared.parsed.Parsed.{Parsed}
use Rattle.rst_tree.specs.declared.node.Node.{Node}
use Rattle.rst_tree.specs.declared.note.Note.{Note}
use Rattle.rst2pseudoxml_options.specs.declared.format.Format.TheVariants.{PseudoXml}
use Rattle.rst2pseudoxml_run.specs.Reading.{held, lines_under, read_of}
use Rattle.rst2pseudoxml_run.specs.RunResult.{Parts, ended_by, halting, is_reported, result_of}
use Rattle.rst2pseudoxml_run.specs.declared.end.End.{End}
use Rattle.rst2pseudoxml_run.specs.declared.end.End.TheVariants.{TooLong, NotUtf8, TooDeep, NoMemory}

-- ---- what a text means: the same for each call

-- a finished document and its messages, or the refusal
abbrev pub Left : Type 0
Left = Result (Node × List Note) End

abbrev pub left_of_read : Settings → Result (Node × ℕ) ℕ → Left
left_of_read settings (Ok read) = Ok (leaves read.1 (profile_of settings) settings read.0)
left_of_read settings (Err line) = Err (TooDeep line)

abbrev pub left_of_text : Settings → List ℕ → Option (List ℕ) → Left
left_of_text settings bytes None = Err (NotUtf8 (utf8_valid_len bytes))
left_of_text settings bytes (Some text) = left_of_read settings (read_of (profile_of settings) (lines_under settings text))

-- what is left of some bytes
abbrev pub left_of : Settings → List ℕ → Left
left_of settings bytes =
    let text = text_of bytes in if nat_lt 16777216 (length bytes) then Err TooLong else left_of_text (held settings text) bytes text

-- ---- what a call makes of it: two texts and a status

-- the document with the attributes that it is printed with, but for its source; or the messages that are reported
abbrev pub bytes_as : Form → Settings → Node × List Note → List ℕ
bytes_as DocumentJson settings left = json_node (with_printed_attrs None left.0)
bytes_as DocumentRecords settings left = node_record (with_printed_attrs None left.0)
bytes_as MessagesJson settings left = json_array (map json_note (filter (is_reported settings) left.1))

abbrev pub parts_as : Form → Settings → Node × List Note → Parts
parts_as form settings left = record { out = bytes_as form settings left; err = []; status = ended_by settings left.1 (halting settings left.1) }

-- ---- what a call makes, or why it makes nothing

abbrev pub Wanted : Type 0
Wanted = Result Parts Refusal

abbrev pub made_by : (Node × List Note → Parts) → Left → Wanted
made_by makes (Ok left) = Ok (makes left)
made_by makes (Err end) = Err (Text end)

-- what a form gives for a text
abbrev pub form_wanted : Form → Option Settings → List ℕ → Wanted
form_wanted form None text = Err Options
form_wanted form (Some settings) text = made_by (parts_as form settings) (left_of settings text)

-- what is parsed of some bytes: the document before the transforms, or the refusal
abbrev pub parsed_of_read : Result (Node × ℕ) ℕ → Result Node End
parsed_of_read (Ok read) = Ok read.0
parsed_of_read (Err line) = Err (TooDeep line)

abbrev pub parsed_of_text : Settings → List ℕ → Option (List ℕ) → Result Node End
parsed_of_text settings bytes None = Err (NotUtf8 (utf8_valid_len bytes))
parsed_of_text settings bytes (Some text) = parsed_of_read (read_of (profile_of settings) (lines_under settings text))

abbrev pub parsed_of : Settings → List ℕ → Result Node End
parsed_of settings bytes =
    let text = text_of bytes in if nat_lt 16777216 (length bytes) then Err TooLong else parsed_of_text (held settings text) bytes text

-- it as records or as JSON, with the attributes that serve the transforms alone, too
abbrev pub parsed_bytes : Bool → Node → List ℕ
parsed_bytes records document = let whole = with_printed_attrs None document in if records then node_record_of true whole else json_node_of true whole

abbrev pub parsed_parts : Bool → Result Node End → Wanted
parsed_parts records (Ok document) = Ok (record { out = parsed_bytes records document; err = []; status = 0 })
parsed_parts records (Err end) = Err (Text end)

-- what is parsed of a text
abbrev pub parse_wanted : Bool → Option Settings → List ℕ → Wanted
parse_wanted records None text = Err Options
parse_wanted records (Some settings) text = parsed_parts records (parsed_of settings text)

abbrev pub wanted_of : Result Parts End → Wanted
wanted_of (Ok parts) = Ok parts
wanted_of (Err end) = Err (Text end)

-- what the program prints for a text
abbrev pub print_wanted : Option Settings → List ℕ → List ℕ → Wanted
print_wanted None source text = Err Options
print_wanted (Some settings) source text = if is_utf8 source then wanted_of (result_of PseudoXml (profile_of settings) settings source text) else Err Source

-- ---- what is reported to the caller

-- nothing was made
abbrev pub failed : ℕ → ℕ → RstResult
failed end at = record { end = end; status = 0; at = at; length = 0; messages = 0 }

abbrev pub failed_by : Refusal → RstResult
failed_by Options = failed 1 0
failed_by Source = failed 2 0
failed_by (Text TooLong) = failed 3 0
failed_by (Text (NotUtf8 at)) = failed 4 at
failed_by (Text (TooDeep line)) = failed 5 line
failed_by (Text end) = failed 6 0

-- the result of a call
abbrev pub c_result_of : Wanted → RstResult
c_result_of (Ok parts) = record { end = 0; status = parts.status; at = 0; length = length parts.out; messages = length parts.err }
c_result_of (Err refusal) = failed_by refusal

-- a room after a text was to be put at its start: it is as it was where the text doesn't fit
abbrev pub filled_room : List ℕ → List ℕ → List ℕ
filled_room text room = if nat_le (length text) (length room) then text ++ drop (length text) room else room

-- the room for the tree, for JSON or for records, after a call
abbrev pub tree_after : Wanted → List ℕ → List ℕ
tree_after (Ok parts) room = filled_room parts.out room
tree_after (Err refusal) room = room

-- the room for the messages after a call
abbrev pub messages_after : Wanted → List ℕ → List ℕ
messages_after (Ok parts) room = filled_room parts.err room
messages_after (Err refusal) room = room

-- memory is needed
abbrev pub needs_memory : Wanted → Bool
needs_memory (Err Options) = false
needs_memory (Err Source) = false
needs_memory (Err (Text TooLong)) = false
needs_memory _ = true

-- a call made what was wanted of it, or memory ran out
abbrev pub MakesWanted : Wanted → Wanted → Type 0
MakesWanted wanted made = (made ≡ wanted) ⊎ ((made ≡ Err (Text NoMemory)) × (needs_memory wanted ≡ true))

-- By options: they choose settings or none, and a call that made what is wanted under these, or ran out of memory, leaves this.
abbrev pub Answers : RstOptions → (Option Settings → Wanted) → (Wanted → Type 0) → Type 0
Answers options wanted Leaves = (settings : Option Settings) × SetsIf options None settings × ((made : Wanted) × MakesWanted (wanted settings) made × Leaves made)

-- the same by options and names that are handed back
abbrev pub AnswersHanding : RstOptions → List ℕ → (Option Settings → Wanted) → (Wanted → Type 0) → Type 0
AnswersHanding options names wanted Leaves =
    (settings : Option Settings) × SetsHandingIf options names settings × ((made : Wanted) × MakesWanted (wanted settings) made × Leaves made)

-- ---- on the way

-- what is found of some bytes: what is left of them, or memory ran out where they aren't too many
abbrev pub Finds : Settings → List ℕ → Result Finished End → Type 0
Finds settings bytes (Ok finished) =
    let notes = finished.notes.items in
    (left_of settings bytes ≡ Ok (finished.tree, notes)) × (finished.highest ≡ highest_level notes) × (finished.highest ≤ 4)
Finds settings bytes (Err NoMemory) = length bytes ≤ 16777216
Finds settings bytes (Err end) = left_of settings bytes ≡ Err end

-- what is parsed of some bytes, or memory ran out where they aren't too many
abbrev pub FindsParsed : Settings → List ℕ → Result Parsed End → Type 0
FindsParsed settings bytes (Ok parsed) = parsed_of settings bytes ≡ Ok parsed.tree
FindsParsed settings bytes (Err NoMemory) = length bytes ≤ 16777216
FindsParsed settings bytes (Err end) = parsed_of settings bytes ≡ Err end

-- what was made
abbrev pub made_of : Result Made Refusal → Wanted
made_of (Ok made) = Ok (record { out = (inner_of made.tree).items; err = (inner_of made.messages).items; status = made.status })
made_of (Err refusal) = Err refusal
