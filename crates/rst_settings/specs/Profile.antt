-- What a definition of the whole document leaves to be chosen (Configuration, 'line_length_limit', 'docinfo_xform'; Directives,
-- 'Code'; the bound on nesting is no rule of markup).
use Rattle.std.specs.Prelude.{ℕ, Bool, true}
use Rattle.rst_settings.specs.declared.Settings.{Settings}

-- how many levels blocks may be nested, how many characters a line may have, whether `code` is a directive, and whether a
-- leading field list is bibliographic
pub record Profile : Type 0 where
  pub nesting : ℕ
  pub line_limit : ℕ
  pub code : Bool
  pub docinfo : Bool

-- the profile that the program runs under
abbrev pub profile_of : Settings → Profile
profile_of settings = record { nesting = 250; line_limit = settings.limit; code = true; docinfo = settings.info }
