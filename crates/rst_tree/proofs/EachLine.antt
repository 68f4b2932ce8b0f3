-- The lines of a text that is made of lines.
use Rattle.std.proofs.Common.{◌≡◌, ◌≢◌, ℕ, List, [], ◌∷◌, ◌++◌, inl, inr, suc, arith, refl, ◌∙◌, ap, append_assoc}
use Rattle.std.specs.Prelude.{All}
use Rattle.std.specs.List.{flat_map, onto_first}
use Rattle.std.proofs.lemmas.Bool.Decides.{eqb_tells}
use Rattle.rst_tree.specs.Law.{line_if_any, PrintsEachLine}
use Rattle.rst_tree.specs.Print.{text_lines, printed_line}
use Rattle.std.proofs.lemmas.List.Folds.{flat_map-map}

-- what `All` gives for the first, and for the others
head_of : {X : Type 0} (P : X → Type 0) (x : X) (xs : List X) → All P (x ∷ xs) → P x
head_of P x xs h = h 0 x (omega arith)

tail_of : {X : Type 0} (P : X → Type 0) (x : X) (xs : List X) → All P (x ∷ xs) → All P xs
tail_of P x xs h = λ k d fits. h (suc k) d (omega arith)

-- a byte that is no LF goes onto the first line
onto : (b : ℕ) (bs : List ℕ) → b ≢ 10 → text_lines (b ∷ bs) ≡ onto_first b (text_lines bs)
onto b bs other = elim (eqb_tells b 10) [ inl e ↦ absurd (other e.1) | inr e ↦ rw e.0 refl ]

ended_line : (l rest : List ℕ) → All (λ b. b ≢ 10) l → text_lines (l ++ 10 ∷ rest) ≡ l ∷ text_lines rest
ended_line [] rest h = refl
ended_line (b ∷ l) rest h = onto b (l ++ 10 ∷ rest) (head_of (λ x. x ≢ 10) b l h) ∙ ap (onto_first b) (ended_line l rest (tail_of (λ x. x ≢ 10) b l h))

last_line : (l : List ℕ) → All (λ b. b ≢ 10) l → text_lines l ≡ line_if_any l
last_line [] h = refl
last_line (b ∷ []) h = onto b [] (head_of (λ x. x ≢ 10) b [] h)
last_line (b ∷ c ∷ l) h = onto b (c ∷ l) (head_of (λ x. x ≢ 10) b (c ∷ l) h) ∙ ap (onto_first b) (last_line (c ∷ l) (tail_of (λ x. x ≢ 10) b (c ∷ l) h))

all_lines : (ended : List (List ℕ)) (last : List ℕ) → All (All (λ b. b ≢ 10)) ended → All (λ b. b ≢ 10) last
    → text_lines (flat_map (λ l. l ++ 10 ∷ []) ended ++ last) ≡ ended ++ line_if_any last
all_lines [] last h k = last_line last k
all_lines (l ∷ ls) last h k =
    ap text_lines (append_assoc (l ++ 10 ∷ []) (flat_map (λ l. l ++ 10 ∷ []) ls) last ∙ append_assoc l (10 ∷ []) (flat_map (λ l. l ++ 10 ∷ []) ls ++ last))
    ∙ ended_line l (flat_map (λ l. l ++ 10 ∷ []) ls ++ last) (head_of (All (λ x. x ≢ 10)) l ls h) ∙ ap (λ x. l ∷ x) (all_lines ls last (tail_of (All (λ x. x ≢ 10)) l ls h) k)

pub prints_each : PrintsEachLine
prints_each level ended last h k =
    flat_map-map printed_line (λ l. (level, l)) (text_lines (flat_map (λ l. l ++ 10 ∷ []) ended ++ last)) ∙ ap (flat_map (λ l. printed_line (level, l))) (all_lines ended last h k)
