-- The least indentation, read a line at a time; and lines that lose less of their indentation.
use Rattle.std.proofs.Common.{◌≡◌, ℕ, ◌-◌, Bool, true, false, ◌||◌, min, List, [], ◌∷◌, map, fold, Some, refl, ap, arith, leb}
use Rattle.std.specs.Prelude.{slice_get}
use Rattle.std.specs.Borrow.{Bor}
use Rattle.std.specs.Str.{chars}
use Rattle.std.proofs.lemmas.Bool.{and_parts, le-leb}
use Rattle.rst_text.specs.Block.{Block, indentation, is_blank}
use Rattle.rst_text.specs.MayCut.{is_indented}
use Rattle.rst_markup_directives.specs.Characters.{Text}
use Rattle.rst_markup_directives.specs.Lines.{texts_of}
use Rattle.rst_markup_directives.specs.Options.{least_indentation}
use borrow.Author.Tests.{leb-true}

-- the least of n and the indentations of lines
abbrev pub least_with : ℕ → List Text → ℕ
least_with n ts = fold min n (map indentation ts)

-- of lines of which this is the first
pub least_of : (lines : List (Bor (List ℕ))) (v : Bor (List ℕ)) → slice_get lines 0 ≡ Some v → least_with (indentation (chars v.now)) (texts_of lines) ≡ least_indentation (texts_of lines)
least_of [] v h = cc
least_of (w ∷ ws) v h =
    let same : v ≡ w = cc in
    let least : min (indentation (chars w.now)) (indentation (chars w.now)) ≡ indentation (chars w.now) = omega arith in
    rw same (ap (λ n. least_with n (texts_of ws)) least)

-- lines that are indented are indented less
pub indented_less : (r k : ℕ) (B : Block) → is_indented r B ≡ true → is_indented (r - k) B ≡ true
indented_less r k [] h = refl
indented_less r k (l ∷ ls) h =
    let both = and_parts (is_blank l.text || leb r (indentation l.text)) (is_indented r ls) h in
    rw (less (is_blank l.text) (indentation l.text) both.0, indented_less r k ls both.1) refl
  where
    less : (b : Bool) (n : ℕ) → (b || leb r n) ≡ true → (b || leb (r - k) n) ≡ true
    less true n h = refl
    less false n h = le-leb (r - k) n (omega (arith, leb-true r n h))
