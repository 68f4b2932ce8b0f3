-- What a run does to its reader and its writers.
use Rattle.std.specs.Prelude.{◌≡◌, ◌⊎◌, ℕ, ◌+◌, ◌<◌, ◌≤◌, true, false, List, length, Option, None, Some, Result, Ok, Err, Vec}
use Rattle.rst_text.specs.Counted.{Stream, Untouched, Gains, HandsOut, IsReadOut, IsCutShort}
use Rattle.rst2pseudoxml_run.specs.declared.end.End.{End}
use Rattle.rst2pseudoxml_run.specs.declared.end.End.TheVariants.{Done, Read, TooLong, NotUtf8, NoMemory, WriteErr, WriteOut, TooDeep}
use Rattle.rst_tree.specs.Faults.{CutShort}
use Rattle.rst2pseudoxml_run.specs.RunResult.{Parts}

-- the writer gained all of a text, and no write of it has failed
abbrev pub IsWritten : Stream → List ℕ → Type 0
IsWritten writer text = Gains writer text × (writer.failed ≡ false)

-- a print failed when the writer had taken the first bytes of a text; they are counted up to the largest `usize`
abbrev pub IsPrintedInPart : Stream → List ℕ → ℕ → Type 0
IsPrintedInPart writer text done = CutShort writer text done

-- The end of the writing of some parts: all of them was written, standard error first, or a write failed, or memory ran out before it.
abbrev pub Shows : Parts → Stream → Stream → End → Type 0
Shows parts out err (Done status) = (status ≡ parts.status) × IsWritten err parts.err × IsWritten out parts.out
Shows parts out err (WriteErr done) = IsCutShort err parts.err done × Untouched out
Shows parts out err (WriteOut done) = IsWritten err parts.err × IsPrintedInPart out parts.out done
Shows parts out err NoMemory = Untouched out × Untouched err
Shows parts out err _ = ⊥

-- The end of a run, where this is the result of the bytes that it was handed.
abbrev pub Ends : Result Parts End → Stream → Stream → Stream → End → Type 0
Ends result input out err (Done status) = IsReadOut input × (parts : Parts) × (result ≡ Ok parts) × Shows parts out err (Done status)
Ends result input out err (WriteErr done) = IsReadOut input × (parts : Parts) × (result ≡ Ok parts) × Shows parts out err (WriteErr done)
Ends result input out err (WriteOut done) = IsReadOut input × (parts : Parts) × (result ≡ Ok parts) × Shows parts out err (WriteOut done)
Ends result input out err (NotUtf8 at) = IsReadOut input × (result ≡ Err (NotUtf8 at)) × Untouched out × Untouched err
Ends result input out err (TooDeep line) = IsReadOut input × (result ≡ Err (TooDeep line)) × Untouched out × Untouched err
Ends result input out err TooLong = (result ≡ Err TooLong) × Untouched out × Untouched err
Ends result input out err Read = (input.failed ≡ true) × Untouched out × Untouched err
Ends result input out err NoMemory = Untouched out × Untouched err

-- For every input, what a run prints and how it ends is the result of the bytes that the reads handed out, each once.
abbrev pub Headline : (List ℕ → Result Parts End) → Stream → Stream → Stream → End → Type 0
Headline result_of input out err end = (bytes : List ℕ) × HandsOut input bytes × Ends (result_of bytes) input out err end

-- not all bytes were read, on this ground
abbrev pub IsUnread : Stream → List ℕ → End → Type 0
IsUnread input bytes TooLong = 16777216 < length bytes
IsUnread input bytes Read = input.failed ≡ true
IsUnread input bytes NoMemory = Unit {0}
IsUnread input bytes _ = ⊥

-- the bytes that were read, or the fault
abbrev pub TakesInput : {A : Type 0} → Stream → List ℕ → Result (Vec ℕ A) End → Type 0
TakesInput input bytes (Ok read) = IsReadOut input × (read.items ≡ bytes) × (length bytes ≤ 16777216)
TakesInput input bytes (Err end) = IsUnread input bytes end

-- Reads, from a state of the reader to a later one, before which some number of bytes has come. Each is made only while no more than 16,777,216
-- bytes have come. One that fails, or gives 0 bytes, is the last.
pub data ReadsOn {R : Type 0} (Gives : R → Option ℕ → List ℕ → R → Type 0) : ℕ → R → R → Type 0 where
  enough : {came : ℕ} {r : R} → ReadsOn Gives came r r
  some : {came n : ℕ} {buf : List ℕ} {r r' r'' : R} → came ≤ 16777216 → 0 < n → Gives r (Some n) buf r' → ReadsOn Gives (came + n) r' r'' → ReadsOn Gives came r r''
  last : {came : ℕ} {buf : List ℕ} {r r' : R} → came ≤ 16777216 → Gives r None buf r' ⊎ Gives r (Some 0) buf r' → ReadsOn Gives came r r'

-- No call is made of a writer to which nothing is to be written: of neither where the run was refused or memory ran out, and not of standard
-- output where a message halts the run, with status 1, or a write to standard error failed.
abbrev pub IsQuiet : End → Type 0 → Type 0 → Type 0
IsQuiet (Done status) out err = status ≡ 1 → out
IsQuiet (WriteErr done) out err = out
IsQuiet (WriteOut done) out err = Unit {0}
IsQuiet _ out err = out × err
