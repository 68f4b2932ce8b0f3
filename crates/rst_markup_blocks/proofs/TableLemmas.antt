-- Where tables end, and what is looked at for that.
use Rattle.std.proofs.Common.{◌≡◌, ℕ, suc, ◌+◌, ◌-◌, ◌<◌, ◌≤◌, min, true, false, length, refl, sym, subst, ap, ◌∙◌, arith, Option, Some, None, IfSome}
use Rattle.std.specs.Prelude.{unwrap_or}
use Rattle.std.specs.Option.{option_or}
use Rattle.std.proofs.Math.Nat.{le-max_right, le-min}
use Rattle.rst_text.specs.Block.{Block}
use Rattle.rst_text.specs.Places.{last_from, NoneFrom, IsLast}
use Rattle.rst_text.specs.Reach.{reach}
use Rattle.rst_text.proofs.PlacesLemmas.{first_from-is, last_from-is, NoneFrom-within}
use Rattle.rst_markup_blocks.specs.declared.lines.LineTest.TheVariants.{Drawn}
use Rattle.rst_markup_blocks.specs.Lines.{lines_while}
use Rattle.rst_markup_blocks.proofs.RowLaws.{while_le}
use Rattle.rst_markup_blocks.proofs.TableLaws.{grid_bottom_within, border_below_within, simple_border_within}
use Rattle.rst_markup_blocks.specs.TableRows.{lines_through, is_border_at, grid_bottom, grid_size, grid_scan, grid_reach, is_lower_border_at, border_below, closes_head, head_border, simple_bottom, simple_size, simple_scan, simple_reach}

-- ---- grid tables

-- the last border before line k, where the search went through all lines
pub grid_bottom-is : (X : Block) (k : ℕ) (o : Option ℕ) → k - 2 ≡ lines_while Drawn X - 2 → IsLast (is_border_at X) 2 k o → o ≡ grid_bottom X
grid_bottom-is X k o e h = last_from-is (is_border_at X) 2 k o h ∙ ap (last_from (is_border_at X) 2) e

-- it is one of them
pub grid_bottom-below : (X : Block) (all : ℕ) (o : Option ℕ) → all ≡ lines_while Drawn X → o ≡ grid_bottom X → IfSome o (λ k. k < all)
grid_bottom-below X all o is e = subst (λ r. IfSome r (λ k. k < all)) (sym e) (go (grid_bottom X) (grid_bottom_within X))
  where
    go : (r : Option ℕ) → IfSome r (λ k. (2 ≤ k) × (k < lines_while Drawn X)) → IfSome r (λ k. k < all)
    go (Some k) h = omega (arith, is, h.1)
    go None h = tt

pub grid_size-is : (X : Block) (o : Option ℕ) → o ≡ grid_bottom X → grid_size X ≡ lines_through (lines_while Drawn X) o
unfolding grid_size
grid_size-is X o e = ap (lines_through (lines_while Drawn X)) (sym e)

pub drawn_reach : (X : Block) → lines_while Drawn X ≤ grid_reach X
unfolding grid_scan
drawn_reach X =
    let n : ℕ = lines_while Drawn X in
    let most : n ≤ min (suc n) (length X) = le-min (omega arith) (while_le Drawn X) in
    omega (arith, most, le-max_right (reach (grid_size X) X) (min (suc n) (length X)))

-- ---- simple tables

-- the first border below line k, where there is none before line j
pub border_below-there : (X : Block) (k j : ℕ) → k < j → j < length X → NoneFrom (is_lower_border_at X) (k + 1) j → is_lower_border_at X j ≡ true → Some j ≡ border_below X k
border_below-there X k j above inside none here = first_from-is (is_lower_border_at X) (k + 1) (length X) (Some j) (omega arith, inside, here, none)

pub border_below-none : (X : Block) (k j : ℕ) → length X ≤ j → NoneFrom (is_lower_border_at X) (k + 1) j → None ≡ border_below X k
border_below-none X k j past none = first_from-is (is_lower_border_at X) (k + 1) (length X) None (NoneFrom-within (is_lower_border_at X) (k + 1) j (k + 1) (length X) (omega arith) past none)

bottom-by : (X : Block) (o : Option ℕ) → head_border X ≡ o → simple_bottom X ≡ border_below X (unwrap_or o 0)
bottom-by X o e = ap (λ (h : Option ℕ). border_below X (unwrap_or h 0)) e

-- there is no border below the top one
pub bottom-none : (X : Block) → None ≡ border_below X 0 → None ≡ simple_bottom X
bottom-none X e = let head : head_border X ≡ None = rw (sym e) refl in sym (bottom-by X None head ∙ sym e)

-- the first border closes no head
pub bottom-first : (X : Block) (first : ℕ) → Some first ≡ border_below X 0 → closes_head X first ≡ false → Some first ≡ simple_bottom X
bottom-first X first e stays = let head : head_border X ≡ None = rw (sym e) (rw stays refl) in sym (bottom-by X None head ∙ sym e)

-- neither is there a head's border then
pub head-none : (X : Block) → None ≡ border_below X 0 → None ≡ head_border X
head-none X e = sym (rw (sym e) refl)

pub head-stays : (X : Block) (first : ℕ) → Some first ≡ border_below X 0 → closes_head X first ≡ false → None ≡ head_border X
head-stays X first e stays = sym (rw (sym e) (rw stays refl))

-- it closes the head
pub head-first : (X : Block) (first : ℕ) → Some first ≡ border_below X 0 → closes_head X first ≡ true → Some first ≡ head_border X
head-first X first e closes = sym (rw (sym e) (rw closes refl))

pub bottom-second : (X : Block) (first : ℕ) → Some first ≡ border_below X 0 → closes_head X first ≡ true → border_below X first ≡ simple_bottom X
bottom-second X first e closes = sym (bottom-by X (Some first) (sym (head-first X first e closes)))

-- the table ends with its last border
pub simple_size-is : (X : Block) (head bottom : Option ℕ) → head ≡ head_border X → bottom ≡ simple_bottom X → lines_through (length X) (option_or bottom head) ≡ simple_size X
unfolding simple_size
simple_size-is X head bottom h b = rw (h, b) refl

-- the lines through the last border are no more than those of the scan for the bottom one
pub last-lines_through : (all first : ℕ) (o : Option ℕ) → first < all → lines_through all (option_or o (Some first)) ≤ lines_through all o
last-lines_through all first None inside = omega arith
last-lines_through all first (Some k) inside = omega arith

pub last-below : (X : Block) (head bottom : Option ℕ) → head ≡ head_border X → bottom ≡ simple_bottom X → IfSome (option_or bottom head) (λ k. k < length X)
last-below X head bottom h b = rw (h, b) (simple_border_within X)

pub border_below-below : (X : Block) (k j : ℕ) → Some j ≡ border_below X k → (k < j) × (j < length X)
border_below-below X k j e = subst (λ r. IfSome r (λ j. (k < j) × (j < length X))) (sym e) (border_below_within X k)

pub scan-is : (X : Block) (o : Option ℕ) → o ≡ simple_bottom X → simple_scan X ≡ lines_through (length X) o
unfolding simple_scan
scan-is X o e = ap (lines_through (length X)) (sym e)

pub scan_reach : (X : Block) → simple_scan X ≤ simple_reach X
scan_reach X = le-max_right (reach (simple_size X) X) (simple_scan X)

pub scan_some : (X : Block) → 1 ≤ length X → 1 ≤ simple_scan X
unfolding simple_scan
scan_some X some = grind arith
