-- Runs of places.
use Rattle.std.proofs.Common.{◌≡◌, ⊎_elim, ℕ, ◌+◌, ◌-◌, ◌<◌, ◌≤◌, Bool, true, false, not, Option, Some, None, unwrap_or, true≢false, refl, sym, ap, ◌∙◌, arith}
use Rattle.std.proofs.lemmas.Bool.{cases_lt}
use Rattle.rst_text.specs.Places.{first_from, IsFirst}
use Rattle.rst_text.proofs.PlacesLemmas.{first_from-is, first_from-IsFirst}

-- each place from one up to another passes, and the other, if it is before the limit, does not
pub record Runs (p : ℕ → Bool) (i n stop : ℕ) : Type 0 where
  pub above : i ≤ stop
  pub within : stop ≤ n
  pub pass : (k : ℕ) → i ≤ k → k < stop → p k ≡ true
  pub stops : stop < n → p stop ≡ false

abbrev pub stop_of : (ℕ → Bool) → ℕ → ℕ → ℕ
stop_of p i n = unwrap_or (first_from (λ k. not (p k)) i (n - i)) n

pub run-stop : (p : ℕ → Bool) (i n stop : ℕ) → Runs p i n stop → stop ≡ stop_of p i n
run-stop p i n stop run = ⊎_elim
    (λ less. ap (λ r. unwrap_or r n) (first_from-is (λ k. not (p k)) i n (Some stop) (run.above, less, ap not (run.stops less), λ k above below. ap not (run.pass k above below))))
    (λ end.
    let within = run.within in
    let same : stop ≡ n = omega arith in
    same ∙ ap (λ r. unwrap_or r n) (first_from-is (λ k. not (p k)) i n None (λ k above below. ap not (run.pass k above (omega arith)))))
    (cases_lt stop n)

passes : (b : Bool) → not b ≡ false → b ≡ true
passes true h = refl
passes false h = absurd (true≢false h)

fails : (b : Bool) → not b ≡ true → b ≡ false
fails true h = absurd (true≢false (sym h))
fails false h = refl

run-by : (p : ℕ → Bool) (i n high : ℕ) (r : Option ℕ) → i ≤ n → high ≡ n → IsFirst (λ k. not (p k)) i high r → Runs p i n (unwrap_or r n)
run-by p i n high (Some s) h e f = record { above = f.0; within = (let less = f.1 in omega arith); pass = λ k above below. passes (p k) (f.3 k above below); stops = λ less. fails (p s) f.2 }
run-by p i n high None h e f = record { above = h; within = omega arith; pass = λ k above below. passes (p k) (f k above (omega arith)); stops = λ less. absurd (omega arith) }

pub run-of : (p : ℕ → Bool) (i n : ℕ) → i ≤ n → Runs p i n (stop_of p i n)
run-of p i n h = run-by p i n (i + (n - i)) (first_from (λ k. not (p k)) i (n - i)) h (omega arith) (first_from-IsFirst (λ k. not (p k)) i (n - i))

pub run-later : (p : ℕ → Bool) (i k n stop : ℕ) → Runs p i n stop → i ≤ k → k ≤ stop → Runs p k n stop
run-later p i k n stop run above below = record { above = below; within = run.within; pass = λ j low high. run.pass j (omega arith) high; stops = run.stops }
