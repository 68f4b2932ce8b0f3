-- A text that means the URI that it is.
use Rattle.std.proofs.Common.{◌≡◌, ℕ, ◌-◌, ◌<◌, Bool, true, false, not, ◌&&◌, ◌==◌, List, [], ◌∷◌, length, get_or, Some, refl, ap, ◌∙◌, arith}
use Rattle.std.specs.Char.{is_ascii_graphic}
use Rattle.std.specs.List.{list_all}
use Rattle.std.specs.Str.{chars}
use Rattle.std.proofs.lemmas.Bool.{and_parts, and_right, ne_eqb}
use Rattle.std.proofs.lemmas.Bool.Decides.{nat_tests}
use Rattle.std.proofs.lemmas.List.Elements.{All-weaker}
use Rattle.std.proofs.lemmas.List.Folds.{list_any_none}
use Rattle.std.proofs.lemmas.List.Splits.{slice_split_none}
use Rattle.std.proofs.lemmas.List.Sums.{AllPass-from_list_all}
use Rattle.std.proofs.lemmas.Str.{chars-IsAscii}
use Rattle.std.proofs.lemmas.Str.Ascii.{IsAscii-from_all}
use Rattle.rst_text.specs.Characters.{is_white, has, without_white}
use Rattle.rst_text.proofs.EscapeLemmas.{unescaped-plain}
use Rattle.rst_markup_directives.specs.Lines.{joined_nonempty}
use Rattle.rst_markup_directives.specs.Target.{located, located_if, is_simple_reference, is_phrase_reference, destination_in, target_text, target_value}

-- ASCII that is neither white nor a backslash
abbrev pub is_plain : ℕ → Bool
is_plain c = is_ascii_graphic c && not (c == 92)

abbrev Plain : List ℕ → Type 0
Plain t = list_all is_plain t ≡ true

other : (c : ℕ) → is_plain c ≡ true → ((c == 10) ≡ false) × ((c == 32) ≡ false) × ((c == 92) ≡ false) × (is_white c ≡ false) × (c < 128)
unfolding is_white
other c h = (grind (arith, nat_tests), grind (arith, nat_tests), grind (arith, nat_tests), grind (arith, nat_tests), grind (arith, nat_tests))

-- ---- it is its own text as a target, of which nothing is left out

target_text-plain : (t : List ℕ) → Plain t → target_text t ≡ t
unfolding target_text joined_nonempty
target_text-plain [] h = refl
target_text-plain (c ∷ cs) h =
    let one = slice_split_none (λ x. x == 10) (c ∷ cs) (All-weaker _ _ (λ x p. (other x p).0) (c ∷ cs) (AllPass-from_list_all is_plain (c ∷ cs) h)) in
    rw (one, (other c (and_parts (is_plain c) (list_all is_plain cs) h).0).1) refl

white-plain : (t : List ℕ) → Plain t → without_white t ≡ t
white-plain [] h = refl
white-plain (c ∷ cs) h = let p = and_parts (is_plain c) (list_all is_plain cs) h in rw (other c p.0).3 (ap (λ l. c ∷ l) (white-plain cs p.1))

-- ---- it is no reference

no-reference : (t : List ℕ) → has t (length t - 1) 95 ≡ false → (is_simple_reference t ≡ false) × (is_phrase_reference t ≡ false)
unfolding is_simple_reference is_phrase_reference
no-reference t h = (rw h (and_right _ _ refl), rw h (and_right _ _ (and_right _ _ refl)))

some-located : (t : List ℕ) → ((length t == 0) ≡ false) → located_if t ≡ Some (located t)
some-located [] some = absurd (cc)
some-located (c ∷ cs) some = refl

pub plain-uri : (t : List ℕ) → (length t == 0) ≡ false → (get_or t (length t - 1) 0 ≡ 95 → ⊥) → list_all is_plain t ≡ true → target_value (chars t) ≡ Some (located (chars t))
unfolding target_value destination_in
plain-uri t some last plain =
    let none : has t (length t - 1) 95 ≡ false = and_right _ _ (ne_eqb _ _ last) in
    let each = AllPass-from_list_all is_plain t plain in
    let bare = ap without_white (unescaped-plain t (list_any_none (λ c. c == 92) t (All-weaker _ _ (λ c h. (other c h).2) t each))) ∙ white-plain t plain in
    rw (chars-IsAscii t (IsAscii-from_all t (All-weaker _ _ (λ c h. (other c h).4) t each)))
    (ap destination_in (target_text-plain t plain) ∙ rw ((no-reference t none).0, (no-reference t none).1) (ap located_if bare ∙ some-located t some))
