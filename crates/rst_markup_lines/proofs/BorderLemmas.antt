-- Borders are recognized by the runs of their characters.
use Rattle.std.proofs.Common.{◌≡◌, ⊎_elim, ℕ, suc, ◌-◌, Bool, true, false, ◌&&◌, ◌||◌, ◌==◌, cond, List, [], ◌∷◌, length, drop, refl, sym, ap, ◌∙◌, arith}
use Rattle.std.specs.Prelude.{nat_lt, nat_le}
use Rattle.std.specs.List.{list_all, list_any}
use Rattle.std.proofs.lemmas.Bool.{cases_Bool, cond_both, and_parts, and_right, eqb-true, lt-ltb}
use Rattle.std.proofs.Math.Bool.{and-false}
use Rattle.std.proofs.lemmas.Bool.Decides.{nat_tests}
use Rattle.rst_text.specs.Block.{is_blank}
use Rattle.rst_markup_lines.specs.TextStart.{begins_with}
use Rattle.rst_markup_lines.specs.Class.{is_in, run}
use Rattle.rst_markup_lines.specs.Border.{is_grid_border, is_simple_border}
use Rattle.rst_markup_lines.specs.declared.class.Class.TheVariants.{Only, Either}
use Rattle.rst_markup_lines.proofs.Runs.{run_cons, whole_run, run_whole}

-- ---- grid tables

-- a border of a grid table, recognized by the run of its characters
abbrev pub grid_by_run : List ℕ → Bool
grid_by_run t =
    let n = run (Either 45 43) t in
    nat_le 5 n && (is_blank (drop n t) && (begins_with 43 t && (begins_with 45 (drop 1 t) && (begins_with 45 (drop (n - 2) t) && begins_with 43 (drop (n - 1) t)))))

pub grid_run : (t : List ℕ) → is_grid_border t ≡ grid_by_run t
unfolding is_grid_border
grid_run t = ⊎_elim
    (λ all.
    let size : run (Either 45 43) t ≡ length t = run_whole (Either 45 43) t all in
    let blank : is_blank (drop (length t) t) ≡ true = ap (λ n. is_blank (drop n t)) (sym size) ∙ whole_run (Either 45 43) t ∙ all in
    rw (size, all, blank) refl)
    (λ some.
    let more : is_blank (drop (run (Either 45 43) t) t) ≡ false = whole_run (Either 45 43) t ∙ some in
    rw (some, more) (and-false (nat_le 5 (length t)) ∙ sym (and-false (nat_le 5 (run (Either 45 43) t)))))
    (cases_Bool (list_all (is_in (Either 45 43)) t))

-- ---- simple tables

-- a border of a simple table, recognized by the run of its characters and by that of `=`
abbrev pub simple_by_run : List ℕ → Bool
simple_by_run t =
    let n = run (Either 61 32) t in let m = run (Only 61) t in
    nat_lt 0 m && (nat_lt m n && (is_blank (drop n t) && begins_with 61 (drop (n - 1) t)))

-- where `=` comes first, its run isn't empty
first_run : (t : List ℕ) → nat_lt 0 (run (Only 61) t) ≡ begins_with 61 t
unfolding run is_in
first_run [] = refl
first_run (c ∷ cs) =
    ap (nat_lt 0) (run_cons (Only 61) c cs)
    ∙ cond_both (c == 61) (suc (run (Only 61) cs)) 0 (λ n. nat_lt 0 n ≡ (c == 61)) (λ e. lt-ltb 0 (suc (run (Only 61) cs)) (omega arith) ∙ sym e) (λ e. sym e)

-- of `=` and spaces the run of `=` is not all, where there is a space
spaced_run : (t : List ℕ) → list_all (is_in (Either 61 32)) t ≡ true → nat_lt (run (Only 61) t) (length t) ≡ list_any (λ c. c == 32) t
unfolding run is_in
spaced_run [] h = refl
spaced_run (c ∷ cs) h =
    let parts = and_parts (c == 61 || c == 32) (list_all (is_in (Either 61 32)) cs) h in
    ap (λ n. nat_lt n (suc (length cs))) (run_cons (Only 61) c cs) ∙ by (c == 61) refl parts.0 (spaced_run cs parts.1)
  where
    by : (b : Bool) → (c == 61) ≡ b → (b || c == 32) ≡ true → nat_lt (run (Only 61) cs) (length cs) ≡ list_any (λ d. d == 32) cs
        → nat_lt (cond b (suc (run (Only 61) cs)) 0) (suc (length cs)) ≡ (c == 32 || list_any (λ d. d == 32) cs)
    by true e one h =
        let is : c ≡ 61 = eqb-true c 61 e in
        let other : (c == 32) ≡ false = ap (λ d. d == 32) is in
        let less : nat_lt (suc (run (Only 61) cs)) (suc (length cs)) ≡ nat_lt (run (Only 61) cs) (length cs) = grind (arith, nat_tests) in
        rw other (less ∙ h)
    by false e one h = rw one (grind (arith, nat_tests))

pub simple_run : (t : List ℕ) → is_simple_border t ≡ simple_by_run t
unfolding is_simple_border
simple_run t = ⊎_elim
    (λ all.
    let size : run (Either 61 32) t ≡ length t = run_whole (Either 61 32) t all in
    let blank : is_blank (drop (length t) t) ≡ true = ap (λ n. is_blank (drop n t)) (sym size) ∙ whole_run (Either 61 32) t ∙ all in
    rw (size, all, blank, first_run t, spaced_run t all) refl)
    (λ some.
    let more : is_blank (drop (run (Either 61 32) t) t) ≡ false = whole_run (Either 61 32) t ∙ some in
    rw (some, more) (sym (and_right (nat_lt 0 (run (Only 61) t)) _ (and-false (nat_lt (run (Only 61) t) (run (Either 61 32) t))))))
    (cases_Bool (list_all (is_in (Either 61 32)) t))
