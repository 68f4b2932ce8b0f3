-- The messages of a run, up to the first that halts it (Configuration, `halt_level`), and which of them are printed (Configuration,
-- `report_level`).
use Rattle.std.specs.Prelude.{◌≡◌, ℕ, ◌-◌, ◌==◌, ◌&&◌, max, List, [], ◌∷◌, map, length, take, slice_index_or, Bool, false, if◌then◌else◌, Option, Some, None, unwrap_or}
use Rattle.std.specs.List.{list_any}
use Rattle.rst_settings.specs.declared.Threshold.{Threshold}
use Rattle.rst_settings.specs.Threshold.{is_reached}
use Rattle.rst_tree.specs.declared.attrs.Attr.{Attr}
use Rattle.rst_tree.specs.declared.key.Key.TheVariants.{Level}
use Rattle.rst_tree.specs.declared.note.Note.{Note}
use Rattle.rst_tree.specs.Attributes.{value_of, as_number}
use Rattle.rst_tree.specs.LevelNames.{level_number}

-- whether a message halts a run
abbrev pub halts : Threshold → Note → Bool
halts halt note = is_reached halt (level_number note.level)

-- the messages up to the first that halts a run, and that one
abbrev pub until_halt : Threshold → List Note → List Note
until_halt halt [] = []
until_halt halt (note ∷ more) = note ∷ (if halts halt note then [] else until_halt halt more)

-- whether one of the messages halts a run
abbrev pub has_halt : Threshold → List Note → Bool
has_halt halt notes = list_any (halts halt) notes

-- none of the messages but the last one halts a run
abbrev pub EndsAtHalt : Threshold → List Note → Type 0
EndsAtHalt halt notes = has_halt halt (take (length notes - 1) notes) ≡ false

-- the number of the highest level among the messages, 0 where there are none
abbrev pub highest_level : List Note → ℕ
highest_level [] = 0
highest_level (note ∷ more) = max (level_number note.level) (highest_level more)

-- the number of the level of a `system_message` with these attributes, 0 where it has none
abbrev pub level_in : List Attr → ℕ
level_in attrs = unwrap_or (as_number (value_of Level attrs)) 0

-- a message, and the number that it carries, if it has one
abbrev pub NumberedNote : Type 0
NumberedNote = Note × Option ℕ

-- the notes of messages
abbrev pub unnumbered_notes : List NumberedNote → List Note
unnumbered_notes all = map (λ one. one.0) all

-- whether the number that a message carries is this one
abbrev pub has_number : ℕ → Option ℕ → Bool
has_number n None = false
has_number n (Some number) = n == number

-- whether a message is printed, and carries this number
abbrev pub is_reported_as : Threshold → ℕ → NumberedNote → Bool
is_reported_as report n one = is_reached report (level_number one.0.level) && has_number n one.1

-- whether one of the messages is printed and carries this number
abbrev pub is_number_reported : Threshold → List NumberedNote → ℕ → Bool
is_number_reported report all n = list_any (is_reported_as report n) all

-- whether a number is marked in a list of marks; none is past its end
abbrev pub is_number_marked : List Bool → ℕ → Bool
is_number_marked marks n = slice_index_or marks n false
