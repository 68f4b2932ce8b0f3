-- What a call gives that can fail for lack of memory. No rule of markup but the limit: the standard doesn't cover memory.
use Rattle.std.specs.Prelude.{◌≡◌, ℕ, List, Some, None, Result, Ok, Err}
use Rattle.rst_settings.specs.declared.Parts.{Parts}
use Rattle.rst_text.specs.Block.{Block}
use Rattle.rst_text.specs.Lines.{first_longer, lines_of}
use Rattle.rst_text.specs.declared.fault.LineFault.{LineFault}
use Rattle.rst_text.specs.declared.fault.LineFault.TheVariants.{TooLong, NoMemory}

-- the lines of a text, none longer than the limit, or the first longer one, or a report that memory ran out (Configuration, `line_length_limit`)
abbrev pub AreWithin : Parts → ℕ → ℕ → List ℕ → Result Block LineFault → Type 0
AreWithin parts limit tab text (Ok lines) = (lines ≡ lines_of parts tab text) × (first_longer limit lines ≡ None)
AreWithin parts limit tab text (Err (TooLong line)) = first_longer limit (lines_of parts tab text) ≡ Some line
AreWithin parts limit tab text (Err NoMemory) = Unit {0}
