-- Lines that are looked at one after the other.
use Rattle.std.proofs.Common.{◌≡◌, ℕ, suc, ◌+◌, ◌<◌, ◌≤◌, true, false, Some, [], ◌∷◌, length, drop, length-drop, refl, sym, ap, ◌∙◌, arith}
use Rattle.std.proofs.lemmas.List.{drop-drop, drop_all}
use Rattle.rst_text.specs.Block.{Block, first_text}
use Rattle.rst_text.specs.Extent.{extent}
use Rattle.rst_text.specs.Reach.{blank_len, reach, through_text, looked}
use Rattle.rst_text.proofs.Ends.{drop_one}
use Rattle.rst_text.proofs.Reaches.{looked_is}
use Rattle.rst_markup_blocks.specs.declared.lines.LineTest.{LineTest}
use Rattle.rst_markup_blocks.specs.declared.lines.LineTest.TheVariants.{Blank, Begins}
use Rattle.rst_markup_lines.specs.TextStart.{first}
use Rattle.rst_markup_blocks.specs.Lines.{passes, lines_while}

pub while_more : (i : ℕ) (test : LineTest) (B : Block) → i < length B → passes test (first_text (drop i B)) ≡ true
    → i + lines_while test (drop i B) ≡ i + 1 + lines_while test (drop (i + 1) B)
unfolding lines_while
while_more i test B there h = rw (drop_one i B) (go (drop i B) (omega (arith, length-drop i B)) h)
  where
    go : (X : Block) → 1 ≤ length X → passes test (first_text X) ≡ true → i + lines_while test X ≡ i + 1 + lines_while test (drop 1 X)
    go [] x h = absurd (omega arith)
    go (l ∷ ls) x h = rw h (omega arith)

pub some_through : (X : Block) → 1 ≤ length X → 1 ≤ through_text X
unfolding through_text
some_through [] h = absurd (omega arith)
some_through (l ∷ ls) h = grind arith

pub while_stop : (i : ℕ) (test : LineTest) (B : Block) → i < length B → passes test (first_text (drop i B)) ≡ false
    → (lines_while test (drop i B) ≡ 0) × (1 ≤ through_text (drop i B))
unfolding lines_while
while_stop i test B there h = (go (drop i B) h, some_through (drop i B) (omega (arith, length-drop i B)))
  where
    go : (X : Block) → passes test (first_text X) ≡ false → lines_while test X ≡ 0
    go [] h = refl
    go (l ∷ ls) h = rw h refl

pub while_end : (i : ℕ) (test : LineTest) (B : Block) → length B ≤ i → lines_while test (drop i B) ≡ 0
unfolding lines_while
while_end i test B over = rw (drop_all i B over) refl

-- what is after the lines up to i
pub after_while : (from i : ℕ) (test : LineTest) (B : Block) → i ≡ from + lines_while test (drop from B)
    → through_text (drop (lines_while test (drop from B)) (drop from B)) ≡ through_text (drop i B)
after_while from i test B e = ap through_text (drop-drop (lines_while test (drop from B)) from B ∙ ap (λ k. drop k B) (sym e))

-- a line with its extent below, and what is looked at for that
pub looked_below : (least : ℕ) (X : Block) → 1 ≤ length X → suc (looked least (drop 1 X)) ≡ reach (suc (extent least (drop 1 X))) X
looked_below least [] h = absurd (omega arith)
looked_below least (l ∷ ls) h = omega (arith, looked_is least ls)

pub drop_far : (i n : ℕ) (B : Block) → drop (i + n) B ≡ drop n (drop i B)
drop_far i n B = ap (λ k. drop k B) (let e : i + n ≡ i + n = refl in e) ∙ sym (drop-drop n i B)

-- blank lines and the line after them
pub blanks_through : (Y : Block) → lines_while Blank Y + through_text (drop (lines_while Blank Y) Y) ≡ through_text Y
unfolding lines_while through_text
blanks_through [] = refl
blanks_through (l ∷ ls) = grind (arith, blanks_through ls)

-- blank lines are those that pass as blank, and what is looked at for them is those and the line after them
pub blanks_are : (Y : Block) → (blank_len Y ≡ lines_while Blank Y) × (through_text Y ≤ suc (lines_while Blank Y))
unfolding lines_while blank_len through_text
blanks_are [] = (refl, omega arith)
blanks_are (l ∷ ls) = let h = blanks_are ls in (grind (arith, h.0), grind (arith, h.1))

-- a line that isn't empty
pub filled_through : (Z : Block) (c : ℕ) → first (first_text Z) ≡ Some c → through_text Z ≡ 1
unfolding through_text
filled_through [] c e = cc
filled_through (l ∷ ls) c e = grind arith

pub begins_while : (Z : Block) (c : ℕ) → first (first_text Z) ≡ Some c → 1 ≤ lines_while (Begins c) Z
unfolding lines_while
begins_while [] c e = cc
begins_while (l ∷ ls) c e = grind arith

pub reach_after : (n m : ℕ) (X : Block) → reach (n + m) X ≡ n + reach m (drop n X)
reach_after n m X = omega (arith, ap through_text (drop-drop m n X))
