-- The first line of a text, by the place of the first LF.
use Rattle.std.proofs.Common.{◌≡◌, ℕ, ◌<◌, ◌≤◌, List, [], ◌∷◌, get_or, length, zero, suc, sym, ◌∙◌, arith, true, false}
use Rattle.std.proofs.lemmas.Bool.{cond-true, cond-false}
use Rattle.std.proofs.lemmas.Bool.Decides.{nat_tests}
use Rattle.std.specs.Prelude.{◌==◌, ◌+◌, if◌then◌else◌}
use Rattle.rst_text.specs.Runs.{IsRun}
use Rattle.rst_tree.specs.Print.{is_of_line, line_len}

lf : (b : ℕ) → is_of_line b ≡ false → (b == 10) ≡ true
lf b h = grind (arith, nat_tests)

other : (b : ℕ) → is_of_line b ≡ true → (b == 10) ≡ false
other b h = grind (arith, nat_tests)

-- the bytes before a place are of one line, and the byte there isn't
first_line : (t : List ℕ) (k : ℕ) → k ≤ length t → ((i : ℕ) → i < k → is_of_line (get_or t i 0) ≡ true) → (k < length t → is_of_line (get_or t k 0) ≡ false) → line_len t ≡ k
first_line [] k within before stops = omega arith
first_line (b ∷ bs) zero within before stops = cond-true _ _ _ (lf b (stops (omega arith)))
first_line (b ∷ bs) (suc k) within before stops =
    let more = first_line bs k (omega arith) (λ i less. before (suc i) (omega arith)) (λ less. stops (omega arith)) in
    cond-false _ _ _ (other b (before 0 (omega arith))) ∙ omega (arith, more)

-- so the first line ends where a run of such bytes does
pub line_len_run : (t : List ℕ) (k : ℕ) → IsRun is_of_line t 0 k → k ≡ line_len t
line_len_run t k run = sym (first_line t k run.within (λ i less. run.pass i (omega arith) less) run.stops)

-- and it is within the text
pub line_len_within : (t : List ℕ) → line_len t ≤ length t
line_len_within [] = omega arith
line_len_within (b ∷ bs) = elim (b == 10) as (λ lf. (if lf then 0 else line_len bs + 1) ≤ length (b ∷ bs)) [ true ↦ omega arith | false ↦ omega (arith, line_len_within bs) ]
