-- An adornment is the run of its first character, if that is the whole line.
use Rattle.std.proofs.Common.{◌≡◌, ℕ, suc, ◌==◌, ◌&&◌, Bool, true, false, cond, List, [], ◌∷◌, length, drop, Option, None, Some, refl, ap, ◌∙◌}
use Rattle.std.specs.List.{list_all}
use Rattle.std.proofs.lemmas.Bool.{eq-eqb}
use Rattle.rst_text.specs.Block.{is_blank}
use Rattle.rst_markup_lines.specs.Adornment.{is_punctuation, adornment_of}
use Rattle.rst_markup_lines.specs.Class.{is_in, run}
use Rattle.rst_markup_lines.specs.TextStart.{first}
use Rattle.rst_markup_lines.specs.declared.class.Class.TheVariants.{Only}
use Rattle.rst_markup_lines.specs.declared.adornment.Adornment.{Adornment}
use Rattle.rst_markup_lines.proofs.Runs.{run_cons, whole_run, run_whole}

run_first : (c : ℕ) (cs : List ℕ) → run (Only c) (c ∷ cs) ≡ suc (run (Only c) cs)
unfolding run is_in
run_first c cs = let same : (c == c) ≡ true = eq-eqb c c refl in run_cons (Only c) c cs ∙ ap (λ b. cond b (suc (run (Only c) cs)) 0) same

-- an adornment of n of this character
abbrev adorned : ℕ → ℕ → Option Adornment
adorned c n = Some (record { character = c; len = n })

-- the same, determined by the run of the first character
abbrev pub run_adornment : Option ℕ → List ℕ → Option Adornment
run_adornment None t = None
run_adornment (Some c) t = cond (is_punctuation c) (cond (is_blank (drop (run (Only c) t) t)) (adorned c (run (Only c) t)) None) None

pub adornment_run : (t : List ℕ) → adornment_of t ≡ run_adornment (first t) t
unfolding adornment_of is_in
adornment_run [] = refl
adornment_run (c ∷ cs) = rw (run_first c cs) (by (is_punctuation c) (list_all (λ d. d == c) cs) refl)
  where
    by : (p q : Bool) → list_all (λ d. d == c) cs ≡ q
        → cond (p && q) (adorned c (suc (length cs))) None
        ≡ cond p (cond (is_blank (drop (run (Only c) cs) cs)) (adorned c (suc (run (Only c) cs))) None) None
    by false q e = refl
    by true true e =
        let blank : is_blank (drop (run (Only c) cs) cs) ≡ true = whole_run (Only c) cs ∙ e in
        rw (blank, run_whole (Only c) cs e) refl
    by true false e =
        let some : is_blank (drop (run (Only c) cs) cs) ≡ false = whole_run (Only c) cs ∙ e in
        rw some refl
