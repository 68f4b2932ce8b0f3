-- Runs that read the same bytes. No rule of markup: it is what the law that they have one end speaks of.
use Rattle.std.specs.Prelude.{◌≡◌, Bool, true, false, List, ℕ, Some}
use Rattle.rst2pseudoxml_options.specs.declared.format.Format.{Format}
use Rattle.rst_settings.specs.Profile.{Profile}
use Rattle.rst_settings.specs.declared.Settings.{Settings}
use Rattle.rst_text.specs.Counted.{Stream, Gains}
use Rattle.rst2pseudoxml_run.specs.declared.end.End.{End}
use Rattle.rst2pseudoxml_run.specs.declared.end.End.TheVariants.{Done, TooLong, NotUtf8, TooDeep}
use Rattle.rst2pseudoxml_run.specs.Headline.{Headline}
use Rattle.rst2pseudoxml_run.specs.RunResult.{result_of}

-- a run came to its own end: no read, no write and no growth failed
abbrev pub is_own : End → Bool
is_own (Done status) = true
is_own TooLong = true
is_own (NotUtf8 at) = true
is_own (TooDeep line) = true
is_own _ = false

-- a run of a reader with these bytes came to its own end
pub record Comes (format : Format) (profile : Profile) (settings : Settings) (source text : List ℕ) (input out err : Stream) (end : End) : Type 0 where
  pub holds : input.before ≡ Some text
  pub own : is_own end ≡ true
  pub headline : Headline (result_of format profile settings source) input out err end

-- two of them ended alike, and their writers gained the same
pub record EndAlike (out err also_out also_err : Stream) (end also : End) : Type 0 where
  pub same : end ≡ also
  pub written : List ℕ
  pub reported : List ℕ
  pub out_gains : Gains out written
  pub err_gains : Gains err reported
  pub also_out_gains : Gains also_out written
  pub also_err_gains : Gains also_err reported

abbrev pub HasOneEnd : Type 0
HasOneEnd =
    (format : Format) (profile : Profile) (settings : Settings) (source text : List ℕ)
    (input out err also_input also_out also_err : Stream) (end also : End)
    → Comes format profile settings source text input out err end
    → Comes format profile settings source text also_input also_out also_err also
    → EndAlike out err also_out also_err end also
