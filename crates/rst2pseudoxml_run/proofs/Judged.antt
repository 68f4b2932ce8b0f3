-- Each input has a result: what is printed for it, or why it is refused.
use Rattle.std.proofs.Common.{◌≡◌, ℕ, Bool, true, false, List, length, refl}
use Rattle.std.specs.Prelude.{if◌then◌else◌, nat_lt, Option, Some, None, Result, Ok, Err}
use Rattle.rst2pseudoxml_options.specs.declared.format.Format.{Format}
use Rattle.rst_settings.specs.Profile.{Profile}
use Rattle.rst_settings.specs.declared.Settings.{Settings}
use Rattle.rst_text.specs.Text.{text_of}
use Rattle.rst_tree.specs.declared.node.Node.{Node}
use Rattle.rst2pseudoxml_run.specs.declared.end.End.TheVariants.{TooLong}
use Rattle.rst2pseudoxml_run.specs.Reading.{held, lines_under, read_of}
use Rattle.rst2pseudoxml_run.specs.RunResult.{is_judged, result_of_read, result_of_text, IsJudged}

module _ (format : Format) (profile : Profile) (settings : Settings) (source bytes : List ℕ) where
  by_read : (read : Result (Node × ℕ) ℕ) → is_judged (result_of_read format profile settings source read) ≡ true
  by_read (Ok read) = refl
  by_read (Err line) = refl

  by_text : (text : Option (List ℕ)) → is_judged (result_of_text format profile settings source bytes text) ≡ true
  by_text None = refl
  by_text (Some text) = by_read (read_of profile (lines_under settings text))

  by_length : (long : Bool) → is_judged (if long then Err TooLong else result_of_text format profile settings source bytes (text_of bytes)) ≡ true
  by_length true = refl
  by_length false = by_text (text_of bytes)

pub judged : IsJudged
judged format profile settings source bytes = by_length format profile (held settings (text_of bytes)) source bytes (nat_lt 16777216 (length bytes))
