-- A cut of a cut.
use Rattle.std.proofs.Common.{◌≡◌, ℕ, zero, suc, ◌+◌, ◌-◌, ◌≤◌, List, [], ◌∷◌, length, length-drop, take, drop, map, refl, sym, ◌∙◌, ap, arith, cond, eqb, inl, inr}
use Rattle.std.proofs.lemmas.Bool.{cases_lt}
use Rattle.std.proofs.lemmas.List.{drop-map, drop-drop, take-map, drop-take, take-take, length-map, length-take}
use Rattle.std.proofs.Math.Dec.{eqb-suc-zero}
use Rattle.rst_text.specs.Block.{Line, Block, each_cut, cut, shorten, shorten_all}

-- both cuts of one line
shorten-shorten : (a b : ℕ) (l : Line) → shorten b (shorten a l) ≡ shorten (a + b) l
shorten-shorten a b l = ap (λ (t : List ℕ). let x : Line = record { number = l.number; text = t; parts = l.parts } in x) (drop-drop b a l.text)

map-shorten : (a b : ℕ) (B : Block) → map (shorten b) (map (shorten a) B) ≡ map (shorten (a + b)) B
map-shorten a b [] = refl
map-shorten a b (l ∷ ls) = rw (shorten-shorten a b l, map-shorten a b ls) refl

shorten_all-twice : (f r g s : ℕ) (B : Block) → shorten_all g s (shorten_all f r B) ≡ shorten_all (f + g) (r + s) B
shorten_all-twice f r g s [] = refl
shorten_all-twice f r g s (l ∷ ls) = rw (shorten-shorten f g l, map-shorten r s ls) refl

-- a cut of each line
module _ {A : Type 0} (w : ℕ → Line → A) where
  pub each_cut-same : (r : ℕ) (B : Block) → each_cut w r r B ≡ map (w r) B
  each_cut-same r [] = refl
  each_cut-same r (l ∷ ls) = refl

  pub drop-each_cut : (f r i : ℕ) (B : Block) → drop i (each_cut w f r B) ≡ each_cut w (cond (eqb i 0) f r) r (drop i B)
  drop-each_cut f r zero B = refl
  drop-each_cut f r (suc i) [] = refl
  drop-each_cut f r (suc i) (l ∷ ls) = rw eqb-suc-zero (drop-map (w r) i ls ∙ sym (each_cut-same r (drop i ls)))

  pub take-each_cut : (f r m : ℕ) (B : Block) → take m (each_cut w f r B) ≡ each_cut w f r (take m B)
  take-each_cut f r zero B = refl
  take-each_cut f r (suc m) [] = refl
  take-each_cut f r (suc m) (l ∷ ls) = ap (λ (x : List A). w f l ∷ x) (take-map (w r) m ls)

  pub length-each_cut : (f r : ℕ) (B : Block) → length (each_cut w f r B) ≡ length B
  length-each_cut f r [] = refl
  length-each_cut f r (l ∷ ls) = ap suc (length-map ls (w r))

-- the first lines of what is left of the first n lines
pub take_of : (k m n : ℕ) (B : Block) → k + m ≤ n → take m (drop k (take n B)) ≡ take m (drop k B)
take_of k m n B h =
    let e : n ≡ k + (n - k) = omega arith in
    rw (e) (rw drop-take (take-take m (n - k) (drop k B) (omega arith)))

-- all but the first of some lines
pub rest_of : (i j : ℕ) (B : Block) → take (j - (i + 1)) (drop (i + 1) B) ≡ drop 1 (take (j - i) (drop i B))
rest_of i j B = elim (cases_lt i j) [
  | inl less ↦
      (let e : j - i ≡ 1 + (j - (i + 1)) = omega arith in
      rw e (ap (λ (X : Block). take (j - (i + 1)) X) (sym (drop-drop 1 i B)) ∙ sym (drop-take 1 (j - (i + 1)) (drop i B))))
  | inr over ↦ (let none : j - i ≡ 0 = omega arith in let rest : j - (i + 1) ≡ 0 = omega arith in rw (none, rest) refl)
]

-- a cut of a cut
pub cut-cut : (B : Block) (i j f r k m g s : ℕ) → k ≤ m → m ≤ j - i
    → cut (cut B i j f r) k m g s ≡ cut B (i + k) (i + m) (cond (eqb k 0) f r + g) (r + s)
cut-cut B i j f r k m g s in_order within =
    let n : (i + m) - (i + k) ≡ m - k = omega arith in
    ap (λ (x : Block). shorten_all g s (take (m - k) x)) (drop-each_cut shorten f r k (take (j - i) (drop i B)))
    ∙ ap (λ (x : Block). shorten_all g s x) (take-each_cut shorten (cond (eqb k 0) f r) r (m - k) (drop k (take (j - i) (drop i B))))
    ∙ shorten_all-twice (cond (eqb k 0) f r) r g s (take (m - k) (drop k (take (j - i) (drop i B))))
    ∙ ap (shorten_all (cond (eqb k 0) f r + g) (r + s)) (take_of k (m - k) (j - i) (drop i B) (omega arith) ∙ rw (n, drop-drop k i B) refl)

-- a cut from a later line on
pub drop-cut : (B : Block) (i j f r k : ℕ) → k ≤ j - i → drop k (cut B i j f r) ≡ cut B (i + k) j (cond (eqb k 0) f r) r
drop-cut B i j f r k within =
    let n : j - i ≡ k + (j - (i + k)) = omega arith in
    drop-each_cut shorten f r k (take (j - i) (drop i B))
    ∙ ap (shorten_all (cond (eqb k 0) f r) r) (rw n (rw drop-take (ap (λ (x : Block). take (j - (i + k)) x) (drop-drop k i B))))

-- a cut that ends earlier
pub take-cut : (B : Block) (i j f r m : ℕ) → m ≤ j - i → take m (cut B i j f r) ≡ cut B i (i + m) f r
take-cut B i j f r m within =
    let n : (i + m) - i ≡ m = omega arith in
    take-each_cut shorten f r m (take (j - i) (drop i B)) ∙ ap (shorten_all f r) (take-take m (j - i) (drop i B) within ∙ rw n refl)

pub length-cut : (B : Block) (i j f r : ℕ) → j ≤ length B → length (cut B i j f r) ≡ j - i
length-cut B i j f r within = length-each_cut shorten f r (take (j - i) (drop i B)) ∙ rw length-take (rw length-drop (omega arith))
