-- The lines that are printed of a text are its lines, whichever characters end lines.
use Rattle.std.proofs.Common.{◌≡◌, ℕ, suc, ◌<◌, ◌≤◌, true, false, List, [], ◌∷◌, ◌++◌, length, get_or, map, arith, refl, sym, ap, ◌∙◌, append-nil, ⊎_elim}
use Rattle.std.specs.Prelude.{◌==◌, encode_utf8, encode_utf8_all}
use Rattle.std.specs.List.{onto_first}
use Rattle.std.specs.Str.{chars}
use Rattle.std.proofs.lemmas.Bool.{cases_Bool, eqb-false, eqb-true, ne_eqb}
use Rattle.std.proofs.lemmas.Bool.Decides.{nat_tests}
use Rattle.std.proofs.lemmas.Str.{chars-encodes, encode_ascii, inside_one, len_utf8_bounds, length-encode}
use Rattle.rst_text.specs.Characters.{Text}
use Rattle.rst_text.specs.Lines.{is_line_end, pieces}
use Rattle.rst_tree.specs.Print.{text_lines}
use Rattle.rst_tree_laws.specs.Texts.{Kept, Spells, is_text_character}
use Rattle.rst_tree_laws.proofs.LineCharacters.{text_suits}
use Rattle.rst_tree_laws.proofs.Properties.{scalars_kept}

-- a part before the first of some lines
abbrev onto_part : List ℕ → List (List ℕ) → List (List ℕ)
onto_part part [] = part ∷ []
onto_part part (l ∷ ls) = (part ++ l) ∷ ls

onto_more : (b : ℕ) (part : List ℕ) (ls : List (List ℕ)) → onto_first b (onto_part part ls) ≡ onto_part (b ∷ part) ls
onto_more b part [] = refl
onto_more b part (l ∷ ls) = refl

onto_one : (b : ℕ) (ls : List (List ℕ)) → onto_first b ls ≡ onto_part (b ∷ []) ls
onto_one b [] = refl
onto_one b (l ∷ ls) = refl

-- bytes without LF before a text are the start of its first line
lines_after : (b : ℕ) (bs ys : List ℕ) → ((k : ℕ) → k < length (b ∷ bs) → (get_or (b ∷ bs) k 0 == 10) ≡ false) → text_lines (b ∷ bs ++ ys) ≡ onto_part (b ∷ bs) (text_lines ys)
lines_after b [] ys h = let first = h 0 (omega arith) in rw first (onto_one b (text_lines ys))
lines_after b (d ∷ bs) ys h =
    let first = h 0 (omega arith) in rw first (ap (onto_first b) (lines_after d bs ys (λ k l. h (suc k) (omega (arith, l)))) ∙ onto_more b (d ∷ bs) (text_lines ys))

encoded_after : (bs ys : List ℕ) → 1 ≤ length bs → ((k : ℕ) → k < length bs → (get_or bs k 0 == 10) ≡ false) → text_lines (bs ++ ys) ≡ onto_part bs (text_lines ys)
encoded_after [] ys some h = absurd (omega (arith, some))
encoded_after (b ∷ bs) ys some h = lines_after b bs ys h

encoded_onto : (c : ℕ) (parts : List Text) → onto_part (encode_utf8 c) (map encode_utf8_all parts) ≡ map encode_utf8_all (onto_first c parts)
encoded_onto c [] = ap (λ l. l ∷ []) (sym (append-nil (encode_utf8 c)))
encoded_onto c (part ∷ parts) = refl

-- a character of texts that isn't LF ends no line
ends_none : (c : ℕ) → is_text_character c ≡ true → (c == 10) ≡ false → (is_line_end c ≡ false) × ((c == 13) ≡ false)
ends_none c own other = (grind (arith, nat_tests), grind (arith, nat_tests))

text_pieces : (cs : Text) → Kept is_text_character cs → text_lines (encode_utf8_all cs) ≡ map encode_utf8_all (pieces cs)
text_pieces [] h = refl
text_pieces (c ∷ cs) h =
    ⊎_elim (λ same. let ten : c ≡ 10 = eqb-true c 10 same in rw ten (ap (λ bs. text_lines (bs ++ encode_utf8_all cs)) (encode_ascii 10 (omega arith)) ∙ ap (λ ls. [] ∷ ls) (text_pieces cs h.1)))
    (λ differ.
    let none = ends_none c h.0 differ in
    let seen = λ (k : ℕ) (l : k < length (encode_utf8 c)) (is : get_or (encode_utf8 c) k 0 ≡ 10). eqb-false c 10 differ (inside_one c [] _ k (sym (append-nil (encode_utf8 c))) l (omega (arith, is)) ∙ is) in
    encoded_after (encode_utf8 c) (encode_utf8_all cs) (omega (arith, length-encode c, (len_utf8_bounds c).0)) (λ k l. ne_eqb _ 10 (seen k l))
    ∙ ap (onto_part (encode_utf8 c)) (text_pieces cs h.1) ∙ encoded_onto c (pieces cs) ∙ rw (none.0, none.1) refl) (cases_Bool (c == 10))

pub spelled_pieces : (t : List ℕ) → Spells is_text_character t → text_lines t ≡ map encode_utf8_all (pieces (chars t))
spelled_pieces t (cs, e, h) = rw (e, chars-encodes cs (scalars_kept is_text_character text_suits cs h)) (text_pieces cs h)
