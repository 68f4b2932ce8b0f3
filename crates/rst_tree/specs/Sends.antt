-- What reaches a writer that may fail through a page, by one call or many. No rule of markup: it is how bytes go out.
use Rattle.std.specs.Prelude.{◌≡◌, ℕ, ◌+◌, ◌-◌, ◌^◌, ◌<◌, min, List, [], ◌++◌, length, take, true, false, Option}
use Rattle.rst_text.specs.declared.counted.Counted.{Counted}
use Rattle.rst_text.specs.Counted.{has_failed, IsSent}
use Rattle.rst_tree.specs.declared.page.Page.{Page}

-- a count that stops at the largest `usize`
abbrev pub counted_on : ℕ → ℕ → ℕ
counted_on done n = min (done + n) (2 ^ 64 - 1)

-- what a page holds: the first of its bytes
abbrev pub page_bytes : {N : ℕ} → Page N → List ℕ
page_bytes page = take page.len page.bytes

-- From a start on, a text came to a writer with a page before it. If no write failed, a part was written, and the page holds the rest. Else
-- nothing was written after the failure. The page counts the bytes that the writer took.
pub record Came {W : Type 0} {N : ℕ} (Takes : W → Option ℕ → List ℕ → W → Type 0) (contents : W → Option (List ℕ)) (start : Counted W) (text : List ℕ) (writer : Counted W) (page : Page N) : Type 0 where
  pub sent : List ℕ
  pub calls : IsSent Takes contents start writer sent
  pub counted : page.taken ≡ counted_on 0 calls.taken
  pub gathered : has_failed writer ≡ false → sent ++ page_bytes page ≡ text
  pub cut : has_failed writer ≡ true → (sent ≡ text) × (calls.taken < length text)

-- whatever came before, the text came after it
pub record Sends {W : Type 0} {N : ℕ} (Takes : W → Option ℕ → List ℕ → W → Type 0) (contents : W → Option (List ℕ)) (text : List ℕ) (old : Counted W) (page : Page N) (new : Counted W) (page' : Page N) : Type 0 where
  pub after : (start : Counted W) (before : List ℕ) → Came Takes contents start before old page → Came Takes contents start (before ++ text) new page'

-- nothing came: what the page contained was written, up to a write that failed
abbrev pub Turns : {W : Type 0} {N : ℕ} → (W → Option ℕ → List ℕ → W → Type 0) → (W → Option (List ℕ)) → Counted W → Page N → Counted W → Page N → Type 0
Turns Takes contents old page new page' = Sends Takes contents [] old page new page' × (has_failed new ≡ false → page_bytes page' ≡ [])

-- some bytes were written: this many were taken, and all of them unless a write failed
pub record IsTaken {W : Type 0} (Takes : W → Option ℕ → List ℕ → W → Type 0) (contents : W → Option (List ℕ)) (old new : Counted W) (bytes : List ℕ) (count : ℕ) : Type 0 where
  pub calls : IsSent Takes contents old new bytes
  pub count_is : calls.taken ≡ count
  pub cut : has_failed new ≡ true → count < length bytes
