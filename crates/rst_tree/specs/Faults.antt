-- What calls do that can fail for lack of memory or at a write. No rule of markup: the standard covers neither.
use Rattle.std.specs.Prelude.{◌≡◌, ℕ, ◌≤◌, List, length, take, Bool, true, false, Result, Ok, Err}
use Rattle.rst_text.specs.Counted.{Stream, Gains}
use Rattle.std.specs.declared.alloc.AllocError.{AllocError}
use Rattle.rst_tree.specs.declared.fault.PrintFault.{PrintFault}
use Rattle.rst_tree.specs.declared.fault.PrintFault.TheVariants.{Write}
use Rattle.rst_tree.specs.Sends.{counted_on}

-- what is changed becomes the wanted value, or stays the old one if memory runs out
abbrev pub Becomes : {A S : Type 0} → S → S → S → Result A AllocError → Type 0
Becomes old new wanted (Ok done) = new ≡ wanted
Becomes old new wanted (Err refused) = new ≡ old

-- the same for a call that takes a node in, and gives it back if memory runs out
abbrev pub GivesBack : {A N S : Type 0} → N → S → S → S → Result A (AllocError × N) → Type 0
GivesBack node old new wanted (Ok done) = new ≡ wanted
GivesBack node old new wanted (Err (refused, back)) = (new ≡ old) × (back ≡ node)

-- the first bytes of the text came, and then a write failed; they are counted up to the largest `usize`
pub record CutShort (writer : Stream) (text : List ℕ) (done : ℕ) : Type 0 where
  pub came : ℕ
  pub within : came ≤ length text
  pub counted : done ≡ counted_on 0 came
  pub gained : Gains writer (take came text)
  pub failed : writer.failed ≡ true

-- the end of a print, where a write has failed or not and `taken` bytes were taken
abbrev pub IsEnd : {A : Type 0} → ℕ → Bool → Result A PrintFault → Type 0
IsEnd taken failed (Ok done) = failed ≡ false
IsEnd taken failed (Err (Write done)) = (failed ≡ true) × (done ≡ taken)

-- the writer gains the whole text and hasn't failed, or its first `done` bytes, and has failed
abbrev pub Prints : {A : Type 0} → Stream → List ℕ → Result A PrintFault → Type 0
Prints writer text (Ok done) = Gains writer text × (writer.failed ≡ false)
Prints writer text (Err (Write done)) = CutShort writer text done
