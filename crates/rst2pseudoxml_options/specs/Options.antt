-- The settings and the source that argument words choose (Configuration, 'report_level', 'halt_level', 'exit_status_level',
-- 'doctitle_xform', 'docinfo_xform', 'tab_width', 'line_length_limit').
use Rattle.std.specs.Prelude.{◌≡◌, ℕ, ◌==◌, Bool, true, false, not, ◌&&◌, ◌||◌, List, [], ◌∷◌, Option, Some, None, option_map, Result, Ok, Err, if◌then◌else◌, codes, slice_index, string_bytes}
use Rattle.std.specs.declared.string.String.{String}
use Rattle.std.specs.Option.{option_map_or}
use Rattle.clap.specs.Words.{Kinds, Row, Text, first_of}
use Rattle.rst_settings.specs.Parts.{no_parts}
use Rattle.rst_settings.specs.declared.Parts.{Parts}
use Rattle.rst_settings.specs.declared.Settings.{Settings}
use Rattle.rst_settings.specs.declared.Threshold.{Threshold}
use Rattle.rst_settings.specs.declared.Threshold.TheVariants.{Info, Warning, Severe, Never}
use Rattle.rst2pseudoxml_options.specs.declared.fault.OptionFault.{OptionFault}
use Rattle.rst2pseudoxml_options.specs.declared.fault.OptionFault.TheVariants.{Usage, BadLevel, BadTab, BadLimit, TwoLevels, NoMemory}
use Rattle.rst2pseudoxml_options.specs.Command.{faults_at, rows_at, is_given, is_on}
use Rattle.rst2pseudoxml_options.specs.Values.{threshold_or, tab_or, limit_or}

-- what settings consist of: from which levels on messages are printed, halt and set the exit status, whether a lone title and a leading
-- field list are transformed, the tab width, the most characters of a line, and the parts of the wider profile that are asked for
pub record Choice : Type 0 where
  pub report : Threshold
  pub halt : Threshold
  pub exit : Threshold
  pub title : Bool
  pub info : Bool
  pub tab : ℕ
  pub limit : ℕ
  pub parts : Parts

-- the values of these settings
abbrev pub choice_by : Settings → Choice
choice_by settings = record {
  report = settings.report;
  halt = settings.halt;
  exit = settings.exit;
  title = settings.title;
  info = settings.info;
  tab = settings.tab;
  limit = settings.limit;
  parts = settings.parts;
}

-- the settings where no option changes them
abbrev pub usual : Choice
usual = record { report = Warning; halt = Severe; exit = Never; title = true; info = true; tab = 8; limit = 10000; parts = no_parts }

-- ---- options that a level comes from

-- `-v` reports all messages, `-q` none
abbrev pub report_threshold : List Row → Threshold → Threshold
report_threshold rows otherwise = if is_on (codes "verbose") rows then Info else (if is_on (codes "quiet") rows then Never else otherwise)

-- `--strict` halts at any message
abbrev pub halt_of : List Row → Threshold → Threshold
halt_of rows otherwise = if is_on (codes "strict") rows then Info else otherwise

-- two of three, or all three
abbrev pub more_than_one : Bool → Bool → Bool → Bool
more_than_one a b c = (a && b) || (a && c) || (b && c)

-- more than one of `-r`, `-v` and `-q`, or of `--halt` and `--strict`
abbrev pub has_two_levels : List Row → Bool
has_two_levels rows =
    more_than_one (is_given (codes "report") rows) (is_on (codes "verbose") rows) (is_on (codes "quiet") rows)
    || (is_given (codes "halt") rows && is_on (codes "strict") rows)

-- ---- the first fault of the values, or what they choose

-- the first fault: a level that names none, then the tab width, then the line limit, then two options for one level; else the
-- choice
abbrev pub first_fault : Option Threshold → Option Threshold → Option Threshold → Option ℕ → Option ℕ → Bool → (Threshold → Threshold → Threshold → ℕ → ℕ → Choice) → Result Choice OptionFault
first_fault (Some report) (Some halt) (Some exit) (Some tab) (Some limit) two choice = if two then Err TwoLevels else Ok (choice report halt exit tab limit)
first_fault (Some report) (Some halt) (Some exit) (Some tab) None two choice = Err BadLimit
first_fault (Some report) (Some halt) (Some exit) None limit two choice = Err BadTab
first_fault (Some report) (Some halt) None tab limit two choice = Err BadLevel
first_fault (Some report) None exit tab limit two choice = Err BadLevel
first_fault None halt exit tab limit two choice = Err BadLevel

-- what the values of the options choose, or their first fault
unfoldable pub choice_of : List Row → Result Choice OptionFault
choice_of rows = first_fault
    (threshold_or (first_of (codes "report") rows) usual.report)
    (threshold_or (first_of (codes "halt") rows) usual.halt)
    (threshold_or (first_of (codes "exit-status") rows) usual.exit)
    (tab_or (first_of (codes "tab-width") rows) usual.tab)
    (limit_or (first_of (codes "line-length-limit") rows) usual.limit)
    (has_two_levels rows)
    (λ report halt exit tab limit. record {
      report = report_threshold rows report;
      halt = halt_of rows halt;
      exit = exit;
      title = not (is_on (codes "no-doc-title") rows);
      info = not (is_on (codes "no-doc-info") rows);
      tab = tab;
      limit = limit;
      parts = no_parts;
    })

-- The settings are those that the values choose, or the fault is their first.
abbrev pub Settles : List Row → Result Settings OptionFault → Type 0
Settles rows (Ok settings) = choice_of rows ≡ Ok (choice_by settings)
Settles rows (Err fault) = choice_of rows ≡ Err fault

-- ---- the whole line

-- SOURCE begins with a hyphen
abbrev pub is_dashed : Option Text → Bool
is_dashed source = option_map_or (λ text. slice_index text 0 == 45) source false

-- words are refused, if there is a reason to
abbrev pub refuses : Kinds → Bool
refuses [] = false
refuses (kind ∷ kinds) = true

-- `clap` refuses the words, or SOURCE begins with a hyphen
abbrev pub is_misused : List Text → Bool
is_misused words = refuses (faults_at words) || is_dashed (first_of (codes "source") (rows_at words))

-- a choice together with the source, or the fault
abbrev pub with_source_operand : Option Text → Result Choice OptionFault → Result (Choice × Option Text) OptionFault
with_source_operand source (Ok choice) = Ok (choice, source)
with_source_operand source (Err fault) = Err fault

-- what the words choose and SOURCE, or the first fault
unfoldable pub options_of : List Text → Result (Choice × Option Text) OptionFault
options_of words =
    if is_misused words then Err Usage
    else with_source_operand (first_of (codes "source") (rows_at words)) (choice_of (rows_at words))

-- The settings and the source are what the words choose, each fault is just the first of the words, and memory may
-- run out at any point.
abbrev pub Chooses : {A : Type 0} → List Text → Result (Settings × Option (String A)) OptionFault → Type 0
Chooses words (Ok answer) = options_of words ≡ Ok (choice_by answer.0, option_map string_bytes answer.1)
Chooses words (Err NoMemory) = Unit {0}
Chooses words (Err fault) = options_of words ≡ Err fault
