-- Where it makes no difference which parts of the wider profile are asked for. No rule of markup: it is what the law on that is about.
use Rattle.std.specs.Prelude.{◌≡◌, ℕ, Bool, false, List, encode_utf8_all}
use Rattle.std.specs.Option.{IfSome}
use Rattle.rst2pseudoxml_options.specs.declared.format.Format.{Format}
use Rattle.rst_settings.specs.Profile.{Profile}
use Rattle.rst_settings.specs.declared.Parts.{Parts}
use Rattle.rst_settings.specs.declared.Settings.{Settings}
use Rattle.rst_text.specs.Text.{text_of}
use Rattle.rst2pseudoxml_run.specs.RunResult.{result_of}

-- Where a text doesn't hold a mark, its result is the one under the settings that ask for the parts without some. The mark may depend on what is
-- asked for.
abbrev pub NeedsMark : (Parts → Parts) → (Parts → List ℕ → Bool) → Type 0
NeedsMark without holds =
    (format : Format) (profile : Profile) (settings : Settings) (source bytes : List ℕ)
    → IfSome (text_of bytes) (λ text. holds settings.parts (encode_utf8_all text) ≡ false)
    → result_of format profile settings source bytes ≡ result_of format profile (record settings { parts = without settings.parts }) source bytes
