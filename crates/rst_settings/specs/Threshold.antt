-- From which level of system messages on something is done (Configuration, `report_level`, `halt_level`, `exit_status_level`).
use Rattle.std.specs.Prelude.{ℕ, Bool, nat_le}
use Rattle.rst_settings.specs.declared.Threshold.{Threshold}
use Rattle.rst_settings.specs.declared.Threshold.TheVariants.{Info, Warning, Error, Severe, Never}

-- the number of a level, 1 to 4, and 5 for none
abbrev pub threshold_number : Threshold → ℕ
threshold_number Info = 1
threshold_number Warning = 2
threshold_number Error = 3
threshold_number Severe = 4
threshold_number Never = 5

-- a level, by its number, is at or above a threshold
abbrev pub is_reached : Threshold → ℕ → Bool
is_reached threshold level = nat_le (threshold_number threshold) level
