-- A run of characters is counted one at a time.
use Rattle.std.proofs.Common.{◌≡◌, ℕ, suc, ◌+◌, ◌&&◌, true, false, cond, List, [], ◌∷◌, length, drop, None, Some, arith, refl, ap, ◌∙◌}
use Rattle.std.specs.List.{list_all}
use Rattle.std.proofs.lemmas.Bool.{and_parts, cond_both}
use Rattle.rst_text.specs.Block.{is_blank}
use Rattle.rst_markup_lines.specs.TextStart.{first}
use Rattle.rst_markup_lines.specs.declared.class.Class.{Class}
use Rattle.rst_markup_lines.specs.Class.{is_in, run}

pub run_cons : (class : Class) (c : ℕ) (cs : List ℕ) → run class (c ∷ cs) ≡ cond (is_in class c) (suc (run class cs)) 0
unfolding run
run_cons class c cs = let one : 1 + run class cs ≡ suc (run class cs) = omega arith in ap (λ n. cond (is_in class c) n 0) one

pub run_more : (class : Class) (cs : List ℕ) (c n total : ℕ) → first cs ≡ Some c → is_in class c ≡ true → n + run class cs ≡ total → n + 1 + run class (drop 1 cs) ≡ total
unfolding run
run_more class [] c n total e h t = cc
run_more class (d ∷ ds) c n total e h t =
    let same : d ≡ c = cc in
    let one : run class (d ∷ ds) ≡ suc (run class ds) = run_cons class d ds ∙ ap (λ b. cond b (suc (run class ds)) 0) (ap (is_in class) same ∙ h) in omega arith

pub run_stop : (class : Class) (cs : List ℕ) (c n total : ℕ) → first cs ≡ Some c → is_in class c ≡ false → n + run class cs ≡ total → n ≡ total
unfolding run
run_stop class [] c n total e h t = cc
run_stop class (d ∷ ds) c n total e h t =
    let same : d ≡ c = cc in
    let one : run class (d ∷ ds) ≡ 0 = rw (same, h) refl in omega arith

pub run_end : (class : Class) (cs : List ℕ) (n total : ℕ) → first cs ≡ None → n + run class cs ≡ total → n ≡ total
unfolding run
run_end class [] n total e t = omega arith
run_end class (d ∷ ds) n total e t = cc

-- the run of a class is the whole text just where each character of it is in the class
pub whole_run : (class : Class) (t : List ℕ) → is_blank (drop (run class t) t) ≡ list_all (is_in class) t
unfolding run
whole_run class [] = refl
whole_run class (c ∷ cs) =
    ap (λ n. is_blank (drop n (c ∷ cs))) (run_cons class c cs)
    ∙ cond_both (is_in class c) (suc (run class cs)) 0 (λ n. is_blank (drop n (c ∷ cs)) ≡ (is_in class c && list_all (is_in class) cs)) (λ e. rw e (whole_run class cs)) (λ e. rw e refl)

-- it has then as many characters
pub run_whole : (class : Class) (t : List ℕ) → list_all (is_in class) t ≡ true → run class t ≡ length t
unfolding run
run_whole class [] h = refl
run_whole class (c ∷ cs) h =
    let parts = and_parts (is_in class c) (list_all (is_in class) cs) h in
    let one : is_in class c ≡ true = parts.0 in
    run_cons class c cs ∙ ap (λ b. cond b (suc (run class cs)) 0) one ∙ ap suc (run_whole class cs parts.1)
