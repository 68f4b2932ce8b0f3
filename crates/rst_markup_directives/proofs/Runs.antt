-- Lines before the first blank one, at a place of a block.
use Rattle.std.proofs.Common.{◌≡◌, ℕ, suc, zero, ◌+◌, ◌<◌, false, not, List, [], ◌∷◌, ◌++◌, length, take, drop, refl, sym, ap, ◌∙◌, arith, eqb, map}
use Rattle.std.specs.List.{prefix_len}
use Rattle.std.proofs.lemmas.Bool.{ne_eqb}
use Rattle.std.proofs.lemmas.List.{append_assoc, map-append}
use Rattle.rst_text.specs.Block.{Line, Block, first_text, is_blank}
use Rattle.rst_markup_directives.specs.Lines.{first_run}

pub first_run-more : (B : Block) (i : ℕ) → i < length B → is_blank (first_text (drop i B)) ≡ false → first_run (drop i B) ≡ first_text (drop i B) ∷ first_run (drop (i + 1) B)
first_run-more [] i below h = absurd (omega arith)
first_run-more (l ∷ ls) zero below h =
    let one : 1 + prefix_len (λ (m : Line). not (is_blank m.text)) ls ≡ suc (prefix_len (λ (m : Line). not (is_blank m.text)) ls) = omega arith in
    rw h (ap (λ n. map (λ (m : Line). m.text) (take n (l ∷ ls))) one)
first_run-more (l ∷ ls) (suc i) below h = let e : suc i + 1 ≡ suc (i + 1) = omega arith in rw e (first_run-more ls i (omega arith) h)

-- a text is empty exactly where it has no character
pub length_blank : (t : List ℕ) → eqb (length t) 0 ≡ is_blank t
length_blank [] = refl
length_blank (c ∷ cs) = ne_eqb _ _ (omega arith)

-- one line more of the run
pub run-more : {X : Type 0} (f : X → List ℕ) (B : Block) (i : ℕ) (xs : List X) (x : X) → i < length B → f x ≡ first_text (drop i B) → is_blank (f x) ≡ false
    → map f xs ++ first_run (drop i B) ≡ first_run B → map f (xs ++ x ∷ []) ++ first_run (drop (i + 1) B) ≡ first_run B
run-more f B i xs x below e h run =
    ap (λ ts. ts ++ first_run (drop (i + 1) B)) (map-append f xs (x ∷ [])) ∙ append_assoc (map f xs) (f x ∷ []) (first_run (drop (i + 1) B))
    ∙ ap (λ t. map f xs ++ (t ∷ first_run (drop (i + 1) B))) e
    ∙ sym (ap (λ ts. map f xs ++ ts) (first_run-more B i below (ap is_blank (sym e) ∙ h))) ∙ run
