-- The options of a call (Configuration, 'report_level', 'halt_level', 'exit_status_level', 'doctitle_xform', 'docinfo_xform', 'tab_width',
-- 'line_length_limit'), and the profile.
use Rattle.std.specs.Prelude.{◌≡◌, ℕ, Bool, true, false, if◌then◌else◌, ◌&&◌, ◌==◌, nat_le, List, Option, None, Some, option_map}
use Rattle.std.specs.Str.{is_utf8}
use Rattle.rst_settings.specs.Parts.{all_parts, no_parts}
use Rattle.rst_settings.specs.declared.Parts.{Parts}
use Rattle.rst_settings.specs.declared.Settings.{Settings}
use Rattle.rst_settings.specs.Threshold.{threshold_number}
use Rattle.rst_c.specs.declared.options.RstOptions.{RstOptions}

abbrev pub is_within : ℕ → ℕ → ℕ → Bool
is_within low number high = nat_le low number && nat_le number high

-- each option is in its range, and the size is that of the struct
abbrev pub are_in_range : RstOptions → Bool
are_in_range options =
    (options.size == 16) && is_within 1 options.report 5 && is_within 1 options.halt 5 && is_within 1 options.exit_status 5
    && is_within 1 options.tab_width 99 && is_within 1 options.line_length_limit 16777216
    && nat_le options.no_doc_title 1 && nat_le options.no_doc_info 1 && nat_le options.profile 1 && (options.unused == 0)

-- the parts of the wider profile that a profile has, by its number: 0 has none, 1 has all
abbrev pub parts_of_profile : ℕ → Parts
parts_of_profile number = if number == 0 then no_parts else all_parts

-- the names that settings hand back
abbrev pub names_handed : Settings → Option (List ℕ)
names_handed settings = option_map (λ names. names.now) settings.parts.handed

-- options that are in their ranges, and names that are handed back, choose these settings; thresholds go by their numbers
pub record SetsOptions (options : RstOptions) (names : Option (List ℕ)) (settings : Settings) : Type 0 where
  pub in_range : are_in_range options ≡ true
  pub report : threshold_number settings.report ≡ options.report
  pub halt : threshold_number settings.halt ≡ options.halt
  pub exit : threshold_number settings.exit ≡ options.exit_status
  pub title : settings.title ≡ (options.no_doc_title == 0)
  pub info : settings.info ≡ (options.no_doc_info == 0)
  pub tab : settings.tab ≡ options.tab_width
  pub limit : settings.limit ≡ options.line_length_limit
  pub parts : record settings.parts { handed = None } ≡ parts_of_profile options.profile
  pub handed : names_handed settings ≡ names

-- the settings that options choose with names that are handed back, or none where an option isn't in its range
abbrev pub SetsIf : RstOptions → Option (List ℕ) → Option Settings → Type 0
SetsIf options names None = are_in_range options ≡ false
SetsIf options names (Some settings) = SetsOptions options names settings

-- the same of names that may not be UTF-8; then there are no settings
abbrev pub SetsHandingIf : RstOptions → List ℕ → Option Settings → Type 0
SetsHandingIf options names result = (is_utf8 names ≡ true → SetsIf options (Some names) result) × (is_utf8 names ≡ false → result ≡ None)
