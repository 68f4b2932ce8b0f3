-- A text of plain bytes has no line end but LF.
use Rattle.std.proofs.Common.{◌≡◌, ℕ, List, [], ◌∷◌, true, nat_lt, refl, arith}
use Rattle.std.specs.Prelude.{◌||◌, ◌==◌, not}
use Rattle.std.specs.List.{list_all}
use Rattle.std.specs.Str.{chars}
use Rattle.rst_text.specs.Lines.{is_line_end}
use Rattle.std.proofs.lemmas.Bool.{and_parts}
use Rattle.rst_tree.specs.Tree.{is_plain_byte, is_lines}

chars-ascii : (b : ℕ) (bs : List ℕ) → nat_lt b 128 ≡ true → chars (b ∷ bs) ≡ b ∷ chars bs
unfolding chars
chars-ascii b [] h = rw h refl
chars-ascii b (d ∷ bs) h = rw h refl

pub plain_lines : (bs : List ℕ) → list_all is_plain_byte bs ≡ true → is_lines bs ≡ true
unfolding chars
plain_lines [] h = refl
plain_lines (b ∷ bs) h =
    let k = and_parts (is_plain_byte b) (list_all is_plain_byte bs) h in
    let low : nat_lt b 128 ≡ true = grind (arith, k.0) in
    let none : ((b == 10) || not (is_line_end b)) ≡ true = grind (arith, k.0) in
    rw (chars-ascii b bs low, none) (plain_lines bs k.1)
