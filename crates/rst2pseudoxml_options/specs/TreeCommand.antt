-- The command line of `rst-tree`: its options, with tests of their values (The command line, 'The options of rst-tree'). Words, names and
-- values are the bytes of their UTF-8.
use Rattle.std.specs.Prelude.{◌≡◌, false, true, List, [], ◌∷◌, Some, codes}
use Rattle.std.specs.List.{list_any}
use Rattle.std.specs.Str.{bytes_eq}
use Rattle.clap.specs.Words.{App, Rule, Text, new_app, new_rule}
use Rattle.clap.specs.Simple.{on_top}
use Rattle.clap.specs.ValueTests.{accepts}
use Rattle.clap.specs.declared.builder.value_parser.ValueParser.{ValueParser}
use Rattle.clap.specs.declared.builder.value_parser.ValueParser.TheVariants.{Unsigned}
use Rattle.rst2pseudoxml_options.specs.Command.{flag, value_option, with_all, with_short}

-- the tests of a level, a profile and a format
pub record Tests : Type 0 where
  pub levels : ValueParser
  pub profiles : ValueParser
  pub formats : ValueParser

-- just these names pass a test
abbrev pub TakesJust : List Text → ValueParser → Type 0
TakesJust names test = (text : Text) → accepts false test text ≡ list_any (λ name. bytes_eq name text) names

abbrev pub level_names : List Text
level_names =
    codes "info" ∷ codes "warning" ∷ codes "error" ∷ codes "severe" ∷ codes "none"
    ∷ codes "1" ∷ codes "2" ∷ codes "3" ∷ codes "4" ∷ codes "5" ∷ []

abbrev pub profile_names : List Text
profile_names = codes "docutils" ∷ codes "base" ∷ []

abbrev pub format_names : List Text
format_names = codes "pseudoxml" ∷ codes "json" ∷ []

-- the names that pass
pub record AreTests (tests : Tests) : Type 0 where
  pub levels : TakesJust level_names tests.levels
  pub profiles : TakesJust profile_names tests.profiles
  pub formats : TakesJust format_names tests.formats

-- `--name VALUE`, where the value passes a test
abbrev pub checked_option : Text → ValueParser → Rule
checked_option name test = record (value_option name) { value_names = 1; parser = Some test }

-- one that has a value where it isn't given
abbrev pub with_default : Text → Rule → Rule
with_default value rule = record rule { defaults = value ∷ [] }

-- a command with `--help` and `--version`, whose words contain no program name
abbrev pub named : App
named = on_top (λ s. record s { no_binary_name = true; has_version = true }) (new_app (codes "rst-tree"))

-- the program's command
unfoldable pub tree_command : Tests → App
tree_command tests = with_all named (
    with_default (codes "docutils") (checked_option (codes "profile") tests.profiles)
    ∷ with_default (codes "pseudoxml") (checked_option (codes "format") tests.formats)
    ∷ with_short 114 (checked_option (codes "report") tests.levels) ∷ with_short 118 (flag (codes "verbose")) ∷ with_short 113 (flag (codes "quiet"))
    ∷ checked_option (codes "halt") tests.levels ∷ flag (codes "strict") ∷ checked_option (codes "exit-status") tests.levels
    ∷ flag (codes "no-doc-title") ∷ flag (codes "no-doc-info")
    ∷ checked_option (codes "tab-width") (Unsigned 1 99) ∷ checked_option (codes "line-length-limit") (Unsigned 1 16777216)
    ∷ record (new_rule (codes "source")) { value_names = 1 } ∷ [])
