-- Lines of one indentation, and attributions.
use Rattle.std.proofs.Common.{◌≡◌, ℕ, zero, suc, ◌+◌, ◌-◌, ◌<◌, ◌≤◌, ◌==◌, true, false, cond, [], ◌∷◌, length, take, drop, length-drop, Option, None, Some, arith, refl, sym, ap, ◌∙◌}
use Rattle.std.specs.Prelude.{option_map}
use Rattle.std.proofs.lemmas.List.{drop_all}
use Rattle.rst_text.specs.Block.{Block, first_text, is_blank, indentation}
use Rattle.rst_text.specs.MayCut.{is_indented}
use Rattle.rst_markup_lines.specs.Attribution.{attribution_of}
use Rattle.rst_markup_blocks.specs.Attributions.{level_lines, attribution_after, attribution_at}
use Rattle.rst_markup_blocks.specs.Conditions.{next_text}
use Rattle.rst_markup_blocks.specs.Parts.{IsBlock}
use Rattle.rst_markup_blocks.specs.declared.attribution.Attribution.{Attribution}
use Rattle.rst_markup_blocks.specs.Lines.{lines_while}
use Rattle.rst_markup_blocks.specs.declared.part.Part.{Part}
use Rattle.rst_text.proofs.Ends.{drop_one}

map_more : (n : ℕ) (o : Option ℕ) → option_map (λ m. n + m) (option_map (λ m. suc m) o) ≡ option_map (λ m. n + 1 + m) o
map_more n None = refl
map_more n (Some m) = ap (λ (k : ℕ). Some k) (omega arith)

level_at : (n : ℕ) (X : Block) → level_lines n X ≡ cond (is_blank (first_text X)) (Some 0) (cond (indentation (first_text X) == n) (option_map (λ m. suc m) (level_lines n (drop 1 X))) None)
unfolding level_lines lines_while
level_at n [] = refl
level_at n (l ∷ ls) = grind arith

-- the line at place i is blank
pub level_stop : (n i : ℕ) (B : Block) (total : Option ℕ) → is_blank (first_text (drop i B)) ≡ true → option_map (λ m. i + m) (level_lines n (drop i B)) ≡ total → Some i ≡ total
level_stop n i B total e h = ap (λ (k : ℕ). Some k) (let z : i ≡ i + 0 = omega arith in z) ∙ (rw (level_at n (drop i B), e) at h)

-- it has another indentation
pub level_other : (n i : ℕ) (B : Block) (total : Option ℕ) → is_blank (first_text (drop i B)) ≡ false → (indentation (first_text (drop i B)) == n) ≡ false
    → option_map (λ m. i + m) (level_lines n (drop i B)) ≡ total → None ≡ total
level_other n i B total e f h = rw (level_at n (drop i B), e, f) at h

-- it has this one
pub level_more : (n i : ℕ) (B : Block) (total : Option ℕ) → is_blank (first_text (drop i B)) ≡ false → (indentation (first_text (drop i B)) == n) ≡ true
    → option_map (λ m. i + m) (level_lines n (drop i B)) ≡ total → option_map (λ m. i + 1 + m) (level_lines n (drop (i + 1) B)) ≡ total
level_more n i B total e f h = rw (drop_one i B) (sym (map_more i (level_lines n (drop 1 (drop i B)))) ∙ (rw (level_at n (drop i B), e, f) at h))

-- there is none
pub level_end_of : (n i : ℕ) (B : Block) (total : Option ℕ) → length B ≤ i → option_map (λ m. i + m) (level_lines n (drop i B)) ≡ total → Some i ≡ total
level_end_of n i B total over h =
    let none : is_blank (first_text (drop i B)) ≡ true = ap (λ X. is_blank (first_text X)) (drop_all i B over) in level_stop n i B total none h

-- lines of one indentation are there, and have that
pub level_lines-le : (n m : ℕ) (X : Block) → level_lines n X ≡ Some m → m ≤ length X
level_lines-le n m [] h = let same : 0 ≡ m = cc (level_at n []) in omega arith
level_lines-le n m (l ∷ ls) h =
    let later : (k : ℕ) → level_lines n ls ≡ Some k → k ≤ length ls = λ k. level_lines-le n k ls in grind (arith, level_at n (l ∷ ls), later)

pub level_indented : (n m : ℕ) (X : Block) → level_lines n X ≡ Some m → is_indented n (take m X) ≡ true
level_indented n zero X h = refl
level_indented n (suc m) [] h = refl
level_indented n (suc m) (l ∷ ls) h = grind (arith, level_at n (l ∷ ls), level_indented n m ls)

-- the text of an attribution
pub attribution_block : (k n marker indent : ℕ) (B : Block) → k < length B → level_lines indent (drop 1 (drop k B)) ≡ Some n
    → let p : Part = record { from = k; to = k + 1 + n; first_cut = marker; rest_cut = indent } in IsBlock B p
attribution_block k n marker indent B h e =
    let below = drop_one k B in
    let lines : k + 1 + n - (k + 1) ≡ n = omega arith in
    record {
      ordered = omega arith;
      within = omega (arith, level_lines-le indent n (drop 1 (drop k B)) e, length-drop 1 (drop k B), length-drop k B);
      indented = ap (λ m. is_indented indent (take m (drop (k + 1) B))) lines
          ∙ ap (λ Y. is_indented indent (take n Y)) below ∙ level_indented indent n (drop 1 (drop k B)) e;
    }

-- ---- what is read at a line
pub lines_none : (k d : ℕ) (B : Block) → None ≡ option_map (λ n. k + 1 + n) (level_lines d (drop (k + 1) B)) → level_lines d (drop 1 (drop k B)) ≡ None
lines_none k d B h = by (level_lines d (drop 1 (drop k B))) (h ∙ ap (λ X. option_map (λ n. k + 1 + n) (level_lines d X)) (drop_one k B))
  where
    by : (o : Option ℕ) → None ≡ option_map (λ n. k + 1 + n) o → o ≡ None
    by None h = refl
    by (Some n) h = cc

pub lines_some : (k d end : ℕ) (B : Block) → Some end ≡ option_map (λ n. k + 1 + n) (level_lines d (drop (k + 1) B))
    → (n : ℕ) × (level_lines d (drop 1 (drop k B)) ≡ Some n) × (end ≡ k + 1 + n)
lines_some k d end B h = by (level_lines d (drop 1 (drop k B))) (h ∙ ap (λ X. option_map (λ n. k + 1 + n) (level_lines d X)) (drop_one k B))
  where
    by : (o : Option ℕ) → Some end ≡ option_map (λ n. k + 1 + n) o → (n : ℕ) × (o ≡ Some n) × (end ≡ k + 1 + n)
    by None h = cc
    by (Some n) h = (n, refl, cc)

pub attribution_none : (k d marker : ℕ) (X : Block) → d ≡ indentation (next_text X) → level_lines d (drop 1 X) ≡ None → attribution_of (first_text X) ≡ Some marker → None ≡ attribution_at k X
unfolding attribution_at attribution_after
attribution_none k d marker X f h e =
    let g : level_lines (indentation (next_text X)) (drop 1 X) ≡ None = ap (λ i. level_lines i (drop 1 X)) (sym f) ∙ h in rw (e, g) refl

pub attribution_some : (k d marker n end : ℕ) (X : Block) → d ≡ indentation (next_text X) → level_lines d (drop 1 X) ≡ Some n → end ≡ k + 1 + n
    → attribution_of (first_text X) ≡ Some marker → let a : Attribution = record { marker = marker; end = end; indent = d } in Some a ≡ attribution_at k X
unfolding attribution_at attribution_after
attribution_some k d marker n end X f h p e =
    let g : level_lines (indentation (next_text X)) (drop 1 X) ≡ Some n = ap (λ i. level_lines i (drop 1 X)) (sym f) ∙ h in rw (e, g, f, p) refl
