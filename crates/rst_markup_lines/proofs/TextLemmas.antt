-- Texts that are read from their front.
use Rattle.std.proofs.Common.{◌≡◌, ℕ, suc, ◌+◌, ◌≤◌, List, [], ◌∷◌, ◌++◌, length, drop, refl, sym, ap, ◌∙◌, arith, length-drop, IsSome, true, ◌==◌}
use Rattle.std.specs.Str.{chars, IsUtf8}
use Rattle.std.proofs.Math.Utf8.{encode}
use Rattle.rst_markup_lines.specs.TextStart.{first, begins_with}
use Rattle.std.proofs.lemmas.Str.{chars_past_char}
use Rattle.std.proofs.lemmas.Bool.{cond_both, true≢false}
use Rattle.rst_text.proofs.Indenting.{no_chars}
use Rattle.rst_text.specs.Block.{indentation}

pub after_char : (text whole rest after : List ℕ) (c : ℕ) → IsUtf8 text → whole ≡ text → whole ≡ encode c ++ after → rest ≡ after → chars rest ≡ drop 1 (chars text)
after_char text whole rest after c good e s r = rw r (sym (ap (λ cs. drop 1 cs) (chars_past_char text after c good (sym e ∙ s))))

pub none_after : (text : List ℕ) → length text ≡ 0 → chars text ≡ drop 1 (chars text)
none_after text h = rw (no_chars text h) refl

pub none_first : (text : List ℕ) (P : Type 0) → length text ≡ 0 → IsSome (first (chars text)) → P
none_first text P h some = absurd (true≢false (sym (rw (no_chars text h) at some)))

indentation_le : (cs : List ℕ) → indentation cs ≤ length cs
indentation_le [] = omega arith
indentation_le (c ∷ cs) = cond_both (c == 32) (suc (indentation cs)) 0 (λ n. n ≤ suc (length cs)) (λ e. omega (arith, indentation_le cs)) (λ e. omega arith)

some_there : (cs : List ℕ) → begins_with 32 cs ≡ true → 1 ≤ length cs
some_there [] h = cc
some_there (c ∷ cs) h = omega arith

-- spaces after n characters are within the text
pub indent_within : (n : ℕ) (cs : List ℕ) → begins_with 32 (drop n cs) ≡ true → n + indentation (drop n cs) ≤ length cs
indent_within n cs h = omega (arith, indentation_le (drop n cs), some_there (drop n cs) h, length-drop n cs)
