-- What the calls of a reader or a writer that keeps whether it failed do. No rule of markup: they bring the bytes in and out.
use Rattle.std.specs.Prelude.{◌≡◌, ◌⊎◌, ℕ, ◌+◌, ◌<◌, ◌≤◌, Bool, true, false, List, [], ◌∷◌, length, take, drop, Option, None, Some, Result, Ok, Err}
use Rattle.std.specs.List.{concat}
use Rattle.std.specs.Io.KnownBytes.{Keeps, Appends, Consumes, IsAtEnd}
use Rattle.rst_text.specs.declared.counted.Counted.{Counted}

-- the reader or writer inside
abbrev pub inner_of : {T : Type 0} → Counted T → T
inner_of counted = counted.inner

-- some call so far has failed
abbrev pub has_failed : {T : Type 0} → Counted T → Bool
has_failed counted = counted.failed

-- what is known of a reader's bytes to come, or of those that a writer holds, before and after some calls, and whether a
-- call of it had failed before them and has failed after them
pub record Stream : Type 0 where
  pub before : Option (List ℕ)
  pub after : Option (List ℕ)
  pub had_failed : Bool
  pub failed : Bool

-- from one state of a reader or writer to a later one
abbrev pub between : {T : Type 0} → (T → Option (List ℕ)) → Counted T → Counted T → Stream
between known old new = record { before = known (inner_of old); after = known (inner_of new); had_failed = has_failed old; failed = has_failed new }

-- nothing was read or written
abbrev pub Untouched : Stream → Type 0
Untouched stream = Keeps stream.before stream.after

-- the writer has these bytes more, at its end
abbrev pub Gains : Stream → List ℕ → Type 0
Gains writer bytes = Appends writer.before writer.after bytes

-- the reads handed out these bytes, each once
abbrev pub HandsOut : Stream → List ℕ → Type 0
HandsOut reader bytes = Consumes reader.before reader.after bytes

-- the reader is at its end, and no read failed
abbrev pub IsReadOut : Stream → Type 0
IsReadOut reader = IsAtEnd reader.after × (reader.failed ≡ false)

-- One read hands out the bytes that it gave, none only at the end or with no room; one that fails hands out none.
abbrev pub Reads : Stream → Option ℕ → List ℕ → Type 0
Reads reader None buf = Untouched reader × (reader.failed ≡ true)
Reads reader (Some n) buf = (n ≤ length buf) × HandsOut reader (take n buf) × (n ≡ 0 → 0 < length buf → IsAtEnd reader.after) × (reader.failed ≡ reader.had_failed)

-- One write takes as many bytes as it reports, some if there are some; one that fails takes none.
abbrev pub Writes : Stream → Option ℕ → List ℕ → Type 0
Writes writer None bytes = Untouched writer × (writer.failed ≡ true)
Writes writer (Some n) bytes = (n ≤ length bytes) × (0 < length bytes → 0 < n) × Gains writer (take n bytes) × (writer.failed ≡ writer.had_failed)

-- A write is reported as the one call answered it: as failed where the call failed, or took 0 of some bytes; else with its number.
abbrev pub IsWriteResult : (Option ℕ → Type 0) → Option ℕ → List ℕ → Type 0
IsWriteResult Answers None bytes = Answers None ⊎ (Answers (Some 0) × (0 < length bytes))
IsWriteResult Answers (Some n) bytes = Answers (Some n)

-- a write failed when the writer had taken the first `done` bytes of a text, not all of them
abbrev pub IsCutShort : Stream → List ℕ → ℕ → Type 0
IsCutShort writer text done = (done < length text) × Gains writer (take done text) × (writer.failed ≡ true)

-- Some writes put a whole text, and none of them fails; or the last of them fails, and the first `done` bytes were taken.
abbrev pub Puts : {A : Type 0} → Stream → List ℕ → Result A ℕ → Type 0
Puts writer text (Ok _) = Gains writer text × (writer.failed ≡ writer.had_failed)
Puts writer text (Err done) = IsCutShort writer text done

-- how many bytes of a text were taken
abbrev pub taken_of : {A : Type 0} → List ℕ → Result A ℕ → ℕ
taken_of text (Ok _) = length text
taken_of text (Err done) = done

-- The calls of a writer that write some pieces, one after another: from a state of the writer to a later one, and how many bytes were taken.
-- Each call is given all that is left of a piece, which isn't empty. One that fails, or takes 0 bytes, is the last.
pub data Written {W : Type 0} (Takes : W → Option ℕ → List ℕ → W → Type 0) : W → List (List ℕ) → W → ℕ → Type 0 where
  all : {w : W} → Written Takes w [] w 0
  empty : {w w' : W} {pieces : List (List ℕ)} {taken : ℕ} → Written Takes w pieces w' taken → Written Takes w ([] ∷ pieces) w' taken
  some : {w w' w'' : W} {piece : List ℕ} {pieces : List (List ℕ)} {n taken : ℕ}
      → 0 < n → n ≤ length piece → Takes w (Some n) piece w' → Written Takes w' (drop n piece ∷ pieces) w'' taken → Written Takes w (piece ∷ pieces) w'' (n + taken)
  last : {w w' : W} {piece : List ℕ} {pieces : List (List ℕ)}
      → 0 < length piece → IsWriteResult (λ answer. Takes w answer piece w') None piece → Written Takes w (piece ∷ pieces) w' 0

-- A text is written to a writer, as some pieces: all of the text, or its first bytes, up to a call that fails.
pub record IsSent {W : Type 0} (Takes : W → Option ℕ → List ℕ → W → Type 0) (contents : W → Option (List ℕ)) (old new : Counted W) (text : List ℕ) : Type 0 where
  pub pieces : List (List ℕ)
  pub taken : ℕ
  pub are_pieces : concat pieces ≡ text
  pub calls : Written Takes (inner_of old) pieces (inner_of new) taken
  pub gained : Gains (between contents old new) (take taken text)
  pub whole : has_failed new ≡ false → taken ≡ length text
