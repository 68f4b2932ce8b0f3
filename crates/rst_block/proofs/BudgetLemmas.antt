-- What the lines of all blocks inside a block cost is within the budget.
use Rattle.std.proofs.Common.{◌≡◌, ℕ, zero, suc, ◌+◌, ◌*◌, ◌≤◌, max, Bool, true, false, cond, List, [], ◌∷◌, length, arith, refl, sym, ◌∙◌}
use Rattle.std.specs.List.{AllByRecursion}
use Rattle.std.proofs.lemmas.Bool.{and_parts}
use Rattle.rst_text.specs.Block.{Block, is_blank}
use Rattle.rst_block_state.specs.looks.Budget.{unread, has_blank_lines_only, sum_of, filled_sum, deepest_of, depth, cells_budget, budget, floor, total}
use Rattle.rst_block_state.specs.looks.BudgetLaws.{is_trimmed, IsFronted, BlocksAreInside, CellsAreTrimmed}
use Rattle.rst_block_state.specs.Inside.{inside, cells}
use Rattle.rst_block_state.specs.Within.{Within}

mul_le : (n m d e : ℕ) → n ≤ m → d ≤ e → n * d ≤ m * e
mul_le n m d e h k = grind arith

-- f is no more than g, each time 128, over a list
sum_le : (f g : Block → ℕ) → ((C : Block) → is_trimmed C ≡ true → 128 * f C ≤ g C) → (Cs : List Block) → AllByRecursion (λ C. is_trimmed C ≡ true) Cs → 128 * sum_of f Cs ≤ sum_of g Cs
unfolding sum_of
sum_le f g h [] t = omega arith
sum_le f g h (C ∷ Cs) t = omega (arith, h C t.0, sum_le f g h Cs t.1)

-- blocks that begin with a line that isn't blank
pub trimmed : (Cs : List Block) → AllByRecursion IsFronted Cs → AllByRecursion (λ C. is_trimmed C ≡ true) Cs
trimmed [] h = tt
trimmed (C ∷ Cs) h = (h.0.trimmed, trimmed Cs h.1)

no_line : (C : Block) → IsFronted C → has_blank_lines_only C ≡ true → length C ≡ 0
no_line [] h bare = refl
no_line (l ∷ ls) h bare = let no : false ≡ true = sym (h.first_not_blank (omega arith)) ∙ (and_parts (is_blank l.text) (has_blank_lines_only ls) bare).0 in cc

sum_add : (f g : Block → ℕ) (Cs : List Block) → sum_of (λ C. f C + g C) Cs ≡ sum_of f Cs + sum_of g Cs
unfolding sum_of
sum_add f g [] = refl
sum_add f g (C ∷ Cs) = omega (arith, sum_add f g Cs)

sum_scale : (f : Block → ℕ) (Cs : List Block) → sum_of (λ C. 128 * f C) Cs ≡ 128 * sum_of f Cs
unfolding sum_of
sum_scale f [] = refl
sum_scale f (C ∷ Cs) = omega (arith, sum_scale f Cs)

-- the lines of blocks, each times its depth, are no more than all their lines times the greatest depth
deep_sum : (g : Block → ℕ) (Cs : List Block) → AllByRecursion IsFronted Cs → sum_of (λ C. length C * suc (g C)) Cs ≤ sum_of length Cs * deepest_of g Cs
unfolding sum_of deepest_of
deep_sum g [] h = omega arith
deep_sum g (C ∷ Cs) h = by (has_blank_lines_only C) (no_line C h.0) (deep_sum g Cs h.1)
  where
    add : (n m d e x : ℕ) → x ≤ n * max d e → sum_of (λ C. length C * suc (g C)) Cs ≤ m * e → x + sum_of (λ C. length C * suc (g C)) Cs ≤ (n + m) * max d e
    add n m d e x a b =
        let c : m * e ≤ m * max d e = mul_le m m e (max d e) (omega arith) (omega arith) in
        omega (arith, a, b, c, distr n m (max d e))
      where
        distr : (n m k : ℕ) → (n + m) * k ≡ n * k + m * k
        distr n m k = grind arith

    by : (b : Bool) → (b ≡ true → length C ≡ 0) → sum_of (λ C. length C * suc (g C)) Cs ≤ sum_of length Cs * deepest_of g Cs
        → length C * suc (g C) + sum_of (λ C. length C * suc (g C)) Cs ≤ (length C + sum_of length Cs) * max (cond b 0 (suc (g C))) (deepest_of g Cs)
    by true z i = add (length C) (sum_of length Cs) 0 (deepest_of g Cs) (length C * suc (g C)) (rw (z refl) (omega arith)) i
    by false z i = add (length C) (sum_of length Cs) (suc (g C)) (deepest_of g Cs) (length C * suc (g C)) (mul_le (length C) (length C) (suc (g C)) (max (suc (g C)) (deepest_of g Cs)) (omega arith) (omega arith)) i

pub high : BlocksAreInside → CellsAreTrimmed → (code : Bool) (levels : ℕ) (titles : Bool) (B : Block) → is_trimmed B ≡ true → 128 * total code levels titles B ≤ budget code levels titles B
unfolding total depth cells_budget
high a k code zero titles B t = omega arith
high a cells_trimmed code (suc levels) titles B t =
    let c : Within = unread code titles in
    let is = a c B t in
    let Cs : List Block = inside (unread code titles) B in
    let g : Block → ℕ = depth code levels false in
    let k : Block → ℕ = cells_budget code levels false in
    let f : Block → ℕ = total code levels false in
    let own : Block → ℕ = λ C. length C * suc (g C) in
    let one : 128 * sum_of f Cs ≤ sum_of (λ C. 128 * own C + k C) Cs = sum_le f (λ C. 128 * own C + k C) (high a cells_trimmed code levels false) Cs (trimmed Cs is.fronted) in
    let two : 128 * sum_of f (cells (unread code titles) B) ≤ sum_of (λ C. 128 * own C + k C) (cells (unread code titles) B) = sum_le f (λ C. 128 * own C + k C) (high a cells_trimmed code levels false) (cells (unread code titles) B) (cells_trimmed c B) in
    let parts = sum_add (λ C. 128 * own C) k Cs in
    let scaled = sum_scale own Cs in
    let deep = deep_sum g Cs is.fronted in
    let wide : sum_of length Cs * deepest_of g Cs ≤ length B * deepest_of g Cs = mul_le (sum_of length Cs) (length B) (deepest_of g Cs) (deepest_of g Cs) is.few (omega arith) in
    let more : length B * suc (deepest_of g Cs) ≡ length B + length B * deepest_of g Cs = grind arith in
    omega (arith, one, two, parts, scaled, deep, wide, more)

filled_le : (f g : Block → ℕ) → ((C : Block) → f C ≤ g C) → (Cs : List Block) → filled_sum f Cs ≤ sum_of g Cs
unfolding sum_of filled_sum
filled_le f g h [] = omega arith
filled_le f g h (C ∷ Cs) = by (has_blank_lines_only C) (filled_le f g h Cs)
  where
    by : (b : Bool) → filled_sum f Cs ≤ sum_of g Cs → cond b 0 (f C) + filled_sum f Cs ≤ g C + sum_of g Cs
    by true i = omega (arith, i)
    by false i = omega (arith, i, h C)

pub low : (code : Bool) (levels : ℕ) (titles : Bool) (B : Block) → floor code levels titles B ≤ total code levels titles B
unfolding floor total
low code zero titles B = omega arith
low code (suc levels) titles B =
    let i = low code levels false in
    omega (arith, filled_le (floor code levels false) (total code levels false) i (inside (unread code titles) B), filled_le (floor code levels false) (total code levels false) i (cells (unread code titles) B))
