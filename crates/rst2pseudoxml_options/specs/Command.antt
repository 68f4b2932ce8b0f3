-- The command line: its options, and what `clap` reports on argument words for them (Docutils Front-End Tools,
-- 'rst2pseudoxml'). Words, names and values are the bytes of their UTF-8.
use Rattle.std.specs.Prelude.{◌≡◌, ℕ, Bool, true, false, is_some, List, [], ◌∷◌, Some, Result, Ok, Err, codes}
use Rattle.std.specs.Str.{bytes_eq}
use Rattle.std.specs.Option.{option_map_or}
use Rattle.clap.specs.Words.{App, HasKind, Kinds, Row, Rule, Text, fault_of as faults_of, first_of, found_of, matches_of, new_app, new_rule, rows_of, with_rule}
use Rattle.clap.specs.Simple.{on_top}
use Rattle.clap.specs.declared.builder.action.ArgAction.TheVariants.{SetTrue}
use Rattle.clap.specs.declared.error.Error.{Error}
use Rattle.clap.specs.declared.error.kind.ErrorKind.{ErrorKind}
use Rattle.clap.specs.declared.error.kind.ErrorKind.TheVariants.{OutOfMemory}
use Rattle.clap.specs.declared.parser.matches.ArgMatches.{ArgMatches}
use Rattle.rst2pseudoxml_options.specs.declared.fault.OptionFault.{OptionFault}
use Rattle.rst2pseudoxml_options.specs.declared.fault.OptionFault.TheVariants.{Usage, NoMemory}

-- `--name VALUE`
abbrev pub value_option : Text → Rule
value_option name = record (new_rule name) { long = Some name }

-- `--name`
abbrev pub flag : Text → Rule
flag name = record (new_rule name) { long = Some name; action = Some SetTrue }

-- with a short form, `-c`
abbrev pub with_short : ℕ → Rule → Rule
with_short c rule = record rule { short = Some c }

-- a command whose words contain no program name, without `--help` and `--version`
abbrev pub bare : App
bare = on_top (λ s. record s { no_binary_name = true; disable_help_flag = true; disable_version_flag = true }) (new_app (codes "rst2pseudoxml"))

-- a command with further options
abbrev pub with_all : App → List Rule → App
with_all app [] = app
with_all app (rule ∷ rules) = with_all (with_rule app rule) rules

-- the program's command: its options, `-r`, `-v` and `-q` for the first three, and SOURCE
unfoldable pub program : App
program = with_all bare (
    with_short 114 (value_option (codes "report")) ∷ with_short 118 (flag (codes "verbose")) ∷ with_short 113 (flag (codes "quiet"))
    ∷ value_option (codes "halt") ∷ flag (codes "strict") ∷ value_option (codes "exit-status")
    ∷ flag (codes "no-doc-title") ∷ flag (codes "no-doc-info")
    ∷ value_option (codes "tab-width") ∷ value_option (codes "line-length-limit")
    ∷ new_rule (codes "source") ∷ [])

-- why `clap` refuses the words, memory apart; nothing where it takes them
unfoldable pub faults_at : List Text → Kinds
faults_at words = faults_of program words

-- what `clap` finds in the words: the options that are given, and SOURCE, with their values
unfoldable pub rows_at : List Text → List Row
rows_at words = matches_of program words

-- an option is given
abbrev pub is_given : Text → List Row → Bool
is_given name rows = is_some (first_of name rows)

-- a flag is given
abbrev pub is_on : Text → List Row → Bool
is_on name rows = option_map_or (bytes_eq (codes "true")) (first_of name rows) false

-- the fault that an error of `clap` is
abbrev pub fault_of : ErrorKind → OptionFault
fault_of OutOfMemory = NoMemory
fault_of _ = Usage

-- What `clap` answers: what it finds in words that it takes, or one of the kinds by which it refuses them, or that memory ran out.
abbrev pub Finds : List Text → Result ArgMatches Error → Type 0
Finds words (Ok matches) = (faults_at words ≡ []) × (rows_of (found_of matches) ≡ rows_at words)
Finds words (Err error) = HasKind (faults_at words) error
