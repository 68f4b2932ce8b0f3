-- What the program prints of a finished document: standard output, standard error and the exit status.
use Rattle.std.specs.Prelude.{◌≡◌, ℕ, ◌+◌, Bool, true, false, ◌||◌, nat_lt, List, [], ◌∷◌, ◌++◌, length, filter, if◌then◌else◌, Option, None, Some, Result, Ok, Err, Vec, codes, option_map}
use Rattle.std.specs.Fmt.{decimal}
use Rattle.std.specs.List.{flat_map}
use Rattle.std.specs.Str.Lossy.{utf8_valid_len}
use Rattle.rst_text.specs.Counted.{inner_of}
use Rattle.rst_text.specs.Text.{text_of}
use Rattle.rst_text.specs.declared.counted.Counted.{Counted}
use Rattle.rst2pseudoxml_options.specs.declared.format.Format.{Format}
use Rattle.rst2pseudoxml_options.specs.declared.format.Format.TheVariants.{PseudoXml, Json}
use Rattle.rst_json.specs.Json.{json_node}
use Rattle.rst_settings.specs.Profile.{Profile}
use Rattle.rst_settings.specs.declared.Settings.{Settings}
use Rattle.rst_settings.specs.Threshold.{is_reached}
use Rattle.rst_transform_messages.specs.Messages.{highest_level}
use Rattle.rst_transform.specs.Finishing.{leaves}
use Rattle.rst_tree.specs.LevelNames.{level_name, level_number}
use Rattle.rst_tree.specs.Message.{message_of}
use Rattle.rst_tree.specs.Print.{print_of}
use Rattle.rst_tree.specs.PrintedAttributes.{with_printed_attrs}
use Rattle.rst_tree.specs.declared.node.Node.{Node}
use Rattle.rst_tree.specs.declared.note.Level.{Level}
use Rattle.rst_tree.specs.declared.note.Note.{Note}
use Rattle.rst2pseudoxml_run.specs.declared.end.End.{End}
use Rattle.rst2pseudoxml_run.specs.declared.end.End.TheVariants.{TooLong, NotUtf8, TooDeep, NoMemory}
use Rattle.rst2pseudoxml_run.specs.Reading.{held, lines_under, read_of}

-- standard output, standard error and the exit status
pub record Parts : Type 0 where
  pub out : List ℕ
  pub err : List ℕ
  pub status : ℕ

-- a message that is reported: it is at or above the report level or the halt level
abbrev pub is_reported : Settings → Note → Bool
is_reported settings note = is_reached settings.report (level_number note.level) || is_reached settings.halt (level_number note.level)

abbrev pub last_level : List Note → Option Level
last_level [] = None
last_level (note ∷ []) = Some note.level
last_level (note ∷ notes) = last_level notes

abbrev pub if_reached : Settings → Option Level → Option Level
if_reached settings None = None
if_reached settings (Some level) = if is_reached settings.halt (level_number level) then Some level else None

-- the level of the message that halts a run, if one does: the last
abbrev pub halting : Settings → List Note → Option Level
halting settings notes = if_reached settings (last_level notes)

-- that a message halts the run
abbrev pub exit_line : Option Level → List ℕ
exit_line None = []
exit_line (Some level) =
    codes "Exiting due to level-" ++ decimal (level_number level) ++ codes " (" ++ level_name level ++ codes ") system message.\n"

abbrev pub error_text : Settings → List ℕ → List Note → List ℕ
error_text settings source notes = flat_map (message_of source) (filter (is_reported settings) notes) ++ exit_line (halting settings notes)

abbrev pub status_by : Settings → ℕ → ℕ
status_by settings highest = if is_reached settings.exit highest then 10 + highest else 0

-- a document with the lines and types of its messages: as pseudo-XML with its source, or as JSON, which doesn't name it, and a line end
abbrev pub printed : Format → List ℕ → Node → List ℕ
printed PseudoXml source document = print_of (with_printed_attrs (Some source) document)
printed Json source document = json_node (with_printed_attrs None document) ++ 10 ∷ []

-- standard output: the document, or nothing if a message halts the run
abbrev pub standard_output : Format → List ℕ → Node → Option Level → List ℕ
standard_output format source document None = printed format source document
standard_output format source document (Some level) = []

-- the exit status: by the level of the messages, or 1 where one halts the run
abbrev pub ended_by : Settings → List Note → Option Level → ℕ
ended_by settings notes None = status_by settings (highest_level notes)
ended_by settings notes (Some level) = 1

-- what is printed of a document and its messages, or of its messages alone where one halts the run
abbrev pub parts_of : Format → Settings → List ℕ → Node → List Note → Parts
parts_of format settings source document notes =
    let halts = halting settings notes in
    record { out = standard_output format source document halts; err = error_text settings source notes; status = ended_by settings notes halts }

-- what is printed of what is read of a text: of what is left of a document and of its messages; or the line at which blocks are nested too deeply
abbrev pub result_of_read : Format → Profile → Settings → List ℕ → Result (Node × ℕ) ℕ → Result Parts End
result_of_read format profile settings source (Ok read) = let left = leaves read.1 profile settings read.0 in Ok (parts_of format settings source left.0 left.1)
result_of_read format profile settings source (Err line) = Err (TooDeep line)

-- the same of some bytes and their text, if they are UTF-8
abbrev pub result_of_text : Format → Profile → Settings → List ℕ → List ℕ → Option (List ℕ) → Result Parts End
result_of_text format profile settings source bytes None = Err (NotUtf8 (utf8_valid_len bytes))
result_of_text format profile settings source bytes (Some text) = result_of_read format profile settings source (read_of profile (lines_under settings text))

-- The result of some bytes: what is printed for them, or the refusal of what is too long, no UTF-8 or nested too deeply.
abbrev pub result_of : Format → Profile → Settings → List ℕ → List ℕ → Result Parts End
result_of format profile settings source bytes =
    let text = text_of bytes in if nat_lt 16777216 (length bytes) then Err TooLong else result_of_text format profile (held settings text) source bytes text

-- the refusals that a result may be
abbrev pub is_refusal : End → Bool
is_refusal TooLong = true
is_refusal (NotUtf8 at) = true
is_refusal (TooDeep line) = true
is_refusal _ = false

abbrev pub is_judged : Result Parts End → Bool
is_judged (Ok parts) = true
is_judged (Err end) = is_refusal end

-- each input has a result, which is printed or is one of these refusals
abbrev pub IsJudged : Type 0
IsJudged = (format : Format) (profile : Profile) (settings : Settings) (source bytes : List ℕ) → is_judged (result_of format profile settings source bytes) ≡ true

-- the text of the messages was made, or memory ran out
abbrev pub MakesErrorText : {A : Type 0} → Settings → List ℕ → List Note → Result (Counted (Vec ℕ A)) End → Type 0
MakesErrorText settings source notes (Ok text) = (inner_of text).items ≡ error_text settings source notes
MakesErrorText settings source notes (Err NoMemory) = Unit {0}
MakesErrorText settings source notes (Err _) = ⊥

-- the text of a document that is made before it is written: as JSON, and not as pseudo-XML
abbrev pub IsMadeAs : {A : Type 0} → Format → Node → Option (Vec ℕ A) → Type 0
IsMadeAs PseudoXml document made = made ≡ None
IsMadeAs Json document made = option_map (λ text. text.items) made ≡ Some (printed Json [] document)
