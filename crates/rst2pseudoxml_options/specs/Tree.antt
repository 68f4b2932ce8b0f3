-- What argument words of `rst-tree` choose (The command line, 'The options of rst-tree').
use Rattle.std.specs.Prelude.{◌≡◌, ◌⊎◌, Bool, true, false, List, [], ◌∷◌, Option, Some, None, option_map, Result, Ok, Err, IfErr, if◌then◌else◌, codes, string_bytes}
use Rattle.std.specs.Option.{option_map_or}
use Rattle.std.specs.Str.{bytes_eq}
use Rattle.std.specs.declared.string.String.{String}
use Rattle.clap.specs.Words.{HasKind, IsAmong, Kinds, Row, Text, fault_of as faults_of, first_of, matches_of}
use Rattle.clap.specs.Values.{kind_of}
use Rattle.clap.specs.declared.error.Error.{Error}
use Rattle.clap.specs.declared.error.kind.ErrorKind.{ErrorKind}
use Rattle.clap.specs.declared.error.kind.ErrorKind.TheVariants.{ArgumentConflict, ValueValidation}
use Rattle.rst_settings.specs.Parts.{all_parts, no_parts}
use Rattle.rst_settings.specs.declared.Parts.{Parts}
use Rattle.rst_settings.specs.declared.Settings.{Settings}
use Rattle.rst2pseudoxml_options.specs.Options.{Choice, choice_by, choice_of}
use Rattle.rst2pseudoxml_options.specs.TreeCommand.{tree_command, AreTests, Tests}
use Rattle.rst2pseudoxml_options.specs.declared.fault.OptionFault.{OptionFault}
use Rattle.rst2pseudoxml_options.specs.declared.fault.OptionFault.TheVariants.{TwoLevels}
use Rattle.rst2pseudoxml_options.specs.declared.format.Format.{Format}
use Rattle.rst2pseudoxml_options.specs.declared.format.Format.TheVariants.{PseudoXml, Json}

-- the settings, the format, and SOURCE if a file is named
abbrev pub Chosen : Type 0
Chosen = Choice × Format × Option Text

-- an option has this value
abbrev pub has_value : Text → Text → List Row → Bool
has_value name value rows = option_map_or (λ text. bytes_eq text value) (first_of name rows) false

-- the profile `base` asks for no part of the wider profile, the other for all
abbrev pub parts_of_profile : List Row → Parts
parts_of_profile rows = if has_value (codes "profile") (codes "base") rows then no_parts else all_parts

abbrev pub format_of : List Row → Format
format_of rows = if has_value (codes "format") (codes "json") rows then Json else PseudoXml

-- SOURCE, unless it is `-`, which stands for standard input
abbrev pub file_of : List Row → Option Text
file_of rows = if has_value (codes "source") (codes "-") rows then None else first_of (codes "source") rows

-- two levels, or a number with a sign or a leading zero, which `clap` takes
abbrev pub refusal_of : OptionFault → ErrorKind
refusal_of TwoLevels = ArgumentConflict
refusal_of _ = ValueValidation

-- what the values choose, or the kind by which they are refused
abbrev pub chosen_with : List Row → Result Choice OptionFault → Result Chosen Kinds
chosen_with rows (Ok choice) = Ok (record choice { parts = parts_of_profile rows }, format_of rows, file_of rows)
chosen_with rows (Err fault) = Err (refusal_of fault ∷ [])

-- the same where `clap` takes the words; else its kinds, to which help and the version belong
abbrev pub chosen_if : Kinds → List Row → Result Chosen Kinds
chosen_if [] rows = chosen_with rows (choice_of rows)
chosen_if (kind ∷ kinds) rows = Err (kind ∷ kinds)

unfoldable pub tree_options_of : Tests → List Text → Result Chosen Kinds
tree_options_of tests words = chosen_if (faults_of (tree_command tests) words) (matches_of (tree_command tests) words)

-- the error is of one of the kinds, or says that memory ran out
abbrev pub Refuses : Result Chosen Kinds → Error → Type 0
Refuses (Ok chosen) error = HasKind [] error
Refuses (Err kinds) error = HasKind kinds error

-- what is chosen is answered, or such an error
abbrev pub Answers : {A : Type 0} → Result Chosen Kinds → Result (Settings × Format × Option (String A)) Error → Type 0
Answers wanted (Ok answer) = wanted ≡ Ok (choice_by answer.0, answer.1, option_map string_bytes answer.2)
Answers wanted (Err error) = Refuses wanted error

abbrev pub ChoosesTree : {A : Type 0} → List Text → Result (Settings × Format × Option (String A)) Error → Type 0
ChoosesTree words result = (tests : Tests) × AreTests tests × Answers (tree_options_of tests words) result
