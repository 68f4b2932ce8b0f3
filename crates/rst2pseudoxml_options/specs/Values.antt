-- The values of options (Configuration, 'report_level', 'tab_width', 'line_length_limit').
use Rattle.std.specs.Prelude.{ℕ, Bool, false, ◌&&◌, ◌||◌, nat_le, [], ◌∷◌, Option, Some, None, if◌then◌else◌, codes}
use Rattle.std.specs.Str.{bytes_eq, all_ascii_digits}
use Rattle.std.specs.Str.Parse.{digits_value}
use Rattle.std.specs.Option.{option_map_or}
use Rattle.clap.specs.Words.{Text}
use Rattle.rst_settings.specs.declared.Threshold.{Threshold}
use Rattle.rst_settings.specs.declared.Threshold.TheVariants.{Info, Warning, Error, Severe, Never}

-- a word is one of two
abbrev pub is_one_of : Text → Text → Text → Bool
is_one_of a b text = bytes_eq text a || bytes_eq text b

-- the level that a word names, by its number or its name
unfoldable pub threshold_of : Text → Option Threshold
threshold_of text =
    if is_one_of (codes "1") (codes "info") text then Some Info
    else if is_one_of (codes "2") (codes "warning") text then Some Warning
    else if is_one_of (codes "3") (codes "error") text then Some Error
    else if is_one_of (codes "4") (codes "severe") text then Some Severe
    else if is_one_of (codes "5") (codes "none") text then Some Never
    else None

-- the first is a digit from 1 to 9
abbrev pub begins_from_one : Text → Bool
begins_from_one [] = false
begins_from_one (d ∷ ds) = nat_le 49 d && nat_le d 57

-- a decimal number with no leading zero
abbrev pub is_numeral : Text → Bool
is_numeral text = begins_from_one text && all_ascii_digits text

-- the number from 1 to `most` that a word spells
unfoldable pub number_to : ℕ → Text → Option ℕ
number_to most text = if is_numeral text && nat_le (digits_value 10 text) most then Some (digits_value 10 text) else None

-- ---- what an option gives, `usual` where it is not given

-- a level from 1 to 5, by its number or its name
abbrev pub threshold_or : Option Text → Threshold → Option Threshold
threshold_or given usual = option_map_or threshold_of given (Some usual)

-- 1 to 99 columns
abbrev pub tab_or : Option Text → ℕ → Option ℕ
tab_or given usual = option_map_or (number_to 99) given (Some usual)

-- 1 to 16,777,216 characters
abbrev pub limit_or : Option Text → ℕ → Option ℕ
limit_or given usual = option_map_or (number_to 16777216) given (Some usual)
