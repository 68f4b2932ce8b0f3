-- Texts that are written out, and what the program prints for them, for worked examples. No rule of markup.
use Prim.Native.String.{String}
use Rattle.std.proofs.Common.{arith}
use Rattle.std.specs.Prelude.{◌≡◌, ℕ, List, [], Ok, codes, encode_utf8_all}
use Rattle.rst_settings.specs.Parts.{all_parts}
use Rattle.rst_settings.specs.Profile.{profile_of}
use Rattle.rst_settings.specs.declared.Settings.{Settings}
use Rattle.rst_text.specs.Written.{written}
-- the settings of a call without options
pub use Rattle.rst_transform.specs.Written.{usual}
use Rattle.rst2pseudoxml_options.specs.declared.format.Format.TheVariants.{PseudoXml, Json}
use Rattle.rst2pseudoxml_run.specs.RunResult.{result_of}

-- the usual settings with tab stops every four columns
abbrev pub narrow_tabs : Settings
narrow_tabs = record usual { tab = 4; tab_from = omega arith; tab_to = omega arith }

-- the usual settings with all parts of the wider profile
abbrev pub wide : Settings
wide = record usual { parts = all_parts }

-- For this text, from the source `x`, these lines are printed on standard output and on standard error, with this exit status.
abbrev pub ReportsOn : Settings → List ℕ → List String → List String → ℕ → Type 0
ReportsOn settings text tree messages status =
    result_of PseudoXml (profile_of settings) settings (codes "x") (encode_utf8_all text)
    ≡ Ok (record { out = encode_utf8_all (written tree); err = encode_utf8_all (written messages); status = status })

-- the same of a text of these lines
abbrev pub Reports : Settings → List String → List String → List String → ℕ → Type 0
Reports settings text tree messages status = ReportsOn settings (written text) tree messages status

-- the same without messages, under the usual settings
abbrev pub Outputs : List String → List String → Type 0
Outputs text tree = Reports usual text tree [] 0

-- the same as JSON
abbrev pub OutputsJson : List String → String → Type 0
OutputsJson text json =
    result_of Json (profile_of usual) usual (codes "x") (encode_utf8_all (written text))
    ≡ Ok (record { out = encode_utf8_all (codes json); err = []; status = 0 })
