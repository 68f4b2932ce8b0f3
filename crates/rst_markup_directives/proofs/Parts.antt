-- Parts of blocks.
use Rattle.std.proofs.Common.{◌≡◌, ℕ, ◌-◌, ◌≤◌, [], ◌∷◌, take, drop, length, refl, ap, ◌∙◌, suc, arith, length-drop}
use Rattle.std.proofs.lemmas.List.{length-map, length-take-le}
use Rattle.rst_text.specs.Block.{Block, shorten, shorten_all, cut}

pub length-shorten_all : (f r : ℕ) (ls : Block) → length (shorten_all f r ls) ≡ length ls
length-shorten_all f r [] = refl
length-shorten_all f r (l ∷ ls) = ap suc (length-map ls (shorten r))

-- how many lines a cut has
pub length_cut : (B : Block) (i j f r : ℕ) → i ≤ j → j ≤ length B → length (cut B i j f r) ≡ j - i
length_cut B i j f r h k = length-shorten_all f r (take (j - i) (drop i B)) ∙ length-take-le (j - i) (drop i B) (omega (arith, length-drop i B))
