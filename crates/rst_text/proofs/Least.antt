-- The least indentation of lines that are read one at a time.
use Rattle.std.proofs.Common.{◌≡◌, ⊎_elim, ℕ, cond, [], ◌∷◌, min, Option, Some, None, refl, arith}
use Rattle.std.proofs.lemmas.Bool.{cases_Bool}
use Rattle.std.specs.Prelude.{unwrap_or}
use Rattle.std.specs.List.{fold, reduce}
use Rattle.rst_text.specs.Block.{Block, indentation, is_blank}
use Rattle.rst_text.specs.Extent.{indentations, least_indent}

-- the lesser of two indentations, or the second where there is no first
abbrev pub lower : Option ℕ → ℕ → ℕ
lower None n = n
lower (Some m) n = min m n

pub lower-is : (m : Option ℕ) (n : ℕ) → min (unwrap_or m n) n ≡ lower m n
lower-is None n = omega arith
lower-is (Some m) n = refl

-- the least of `m` and of the indentations of the lines that aren't blank
unfoldable pub least_from : Option ℕ → Block → Option ℕ
least_from m [] = m
least_from m (l ∷ ls) = least_from (cond (is_blank l.text) m (Some (lower m (indentation l.text)))) ls

folded : (m : ℕ) (ls : Block) → least_from (Some m) ls ≡ Some (fold min m (indentations ls))
unfolding least_from
folded m [] = refl
folded m (l ∷ ls) = ⊎_elim (λ e. rw e (folded m ls)) (λ e. rw e (folded (min m (indentation l.text)) ls)) (cases_Bool (is_blank l.text))

reduced : (ls : Block) → least_from None ls ≡ reduce min (indentations ls)
unfolding least_from
reduced [] = refl
reduced (l ∷ ls) = ⊎_elim (λ e. rw e (reduced ls)) (λ e. rw e (folded (indentation l.text) ls)) (cases_Bool (is_blank l.text))

pub least_from-all : (ls : Block) → unwrap_or (least_from None ls) 0 ≡ least_indent ls
unfolding least_indent
least_from-all ls = rw (reduced ls) refl
