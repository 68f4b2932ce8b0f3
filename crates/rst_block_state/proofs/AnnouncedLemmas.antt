-- What a paragraph that announces a literal block contains.
use Rattle.std.proofs.Common.{◌≡◌, ℕ, suc, ◌-◌, ◌<◌, ◌≤◌, ◌==◌, ◌⊎◌, inl, inr, Bool, true, false, ◌&&◌, ◌||◌, List, [], ◌∷◌, ◌++◌, append_assoc, length, length-append, get_or, take, drop, Option, None, Some, refl, sym, ap, ◌∙◌, arith, ltb, lt-ltb, le-ltb, leb-true, drop-cons, take-append-drop, Bor}
use Rattle.std.specs.Prelude.{MatchOption, unwrap_or, if◌then◌else◌}
use Rattle.std.specs.Char.{is_whitespace}
use Rattle.std.specs.Str.{IsUtf8, chars, drop_trailing_whitespace, trim_end}
use Rattle.std.specs.Str.Pattern.{FindsTextSuffix, StripsSuffix}
use Rattle.std.proofs.lemmas.Bool.{and_parts, eqb-true}
use Rattle.std.proofs.lemmas.List.{append_cancel_right, drop_all}
use Rattle.std.proofs.lemmas.Str.{encodes-append, encode_ascii, encodes-chars, chars_from_encodes, length-le-encodes}
use Rattle.std.proofs.Math.Utf8.{encodes}
use Rattle.rst_text.specs.Block.{is_blank}
use Rattle.rst_markup_lines.specs.Closing.{ends_in_colons}
use Rattle.rst_block_state.specs.Literals.{without_colons, announced}

-- ---- the two colons

-- a text that ends in two colons, without them
abbrev pub before_colons : List ℕ → List ℕ
before_colons t = take (length t - 2) t

-- a text that ends in two colons has these two characters last
record HasColons (t : List ℕ) : Type 0 where
  some : 2 ≤ length t
  one : get_or t (length t - 2) 0 ≡ 58
  two : get_or t (length t - 1) 0 ≡ 58

has_colons : (t : List ℕ) → ends_in_colons t ≡ true → HasColons t
has_colons t h =
    let rest = and_parts _ _ (and_parts _ _ h).1 in
    record {
      some = leb-true 2 (length t) (and_parts _ _ h).0;
      one = eqb-true (get_or t (length t - 2) 0) 58 (and_parts (ltb (length t - 2) (length t)) (get_or t (length t - 2) 0 == 58) rest.0).1;
      two = eqb-true (get_or t (length t - 1) 0) 58 (and_parts (ltb (length t - 1) (length t)) (get_or t (length t - 1) 0 == 58) (and_parts _ _ rest.1).0).1;
    }

two_last_of : (t : List ℕ) → HasColons t → t ≡ before_colons t ++ 58 ∷ 58 ∷ []
two_last_of t h =
    let next : suc (length t - 2) ≡ length t - 1 = omega (arith, h.some) in
    let end : suc (length t - 1) ≡ length t = omega (arith, h.some) in
    let last : drop (length t - 1) t ≡ 58 ∷ [] =
    drop-cons t (length t - 1) 0 (omega (arith, h.some)) ∙ ap (λ x. x ∷ drop (suc (length t - 1)) t) h.two ∙ ap (λ n. 58 ∷ drop n t) end ∙ ap (λ x. 58 ∷ x) (drop_all (length t) t (omega arith)) in
    sym (take-append-drop (length t - 2) t)
    ∙ ap (λ x. before_colons t ++ x) (
    drop-cons t (length t - 2) 0 (omega (arith, h.some))
    ∙ ap (λ x. x ∷ drop (suc (length t - 2)) t) h.one
    ∙ ap (λ n. 58 ∷ drop n t) next
    ∙ ap (λ x. 58 ∷ x) last
    )

two_last : (t : List ℕ) → ends_in_colons t ≡ true → t ≡ before_colons t ++ 58 ∷ 58 ∷ []
two_last t h = two_last_of t (has_colons t h)

two_bytes : encodes (58 ∷ 58 ∷ []) ≡ 58 ∷ 58 ∷ []
two_bytes = ap (λ x. x ++ (x ++ [])) (encode_ascii 58 (omega arith))

ends_as : (s : List ℕ) → IsUtf8 s → ends_in_colons (chars s) ≡ true → s ≡ encodes (before_colons (chars s)) ++ 58 ∷ 58 ∷ []
ends_as s good h =
    sym (encodes-chars s good) ∙ ap encodes (two_last (chars s) h) ∙ encodes-append (before_colons (chars s)) (58 ∷ 58 ∷ []) ∙ ap (λ x. encodes (before_colons (chars s)) ++ x) two_bytes

-- a suffix is cut off
pub cut_off : (s prefix suffix : List ℕ) (r : Option (Bor (List ℕ))) (d b : Bor (List ℕ)) → s ≡ prefix ++ suffix
    → MatchOption r (FindsTextSuffix suffix s None) (λ x. StripsSuffix (FindsTextSuffix suffix) s x.now) → b ≡ unwrap_or r d → b.now ≡ prefix
cut_off s prefix suffix None d b e h is = absurd (h prefix e)
cut_off s prefix suffix (Some x) d b e h is =
    let whole : s ≡ x.now ++ suffix = h.1.1 ∙ ap (λ y. y ++ suffix) (sym h.2) in
    ap (λ y. y.now) is ∙ append_cancel_right x.now prefix suffix (sym whole ∙ e)

-- the text before both colons
pub both_off : (s : List ℕ) (r : Option (Bor (List ℕ))) (d b : Bor (List ℕ)) → IsUtf8 s → ends_in_colons (chars s) ≡ true
    → MatchOption r (FindsTextSuffix (58 ∷ 58 ∷ []) s None) (λ x. StripsSuffix (FindsTextSuffix (58 ∷ 58 ∷ [])) s x.now) → b ≡ unwrap_or r d → IsUtf8 b.now
    → chars b.now ≡ before_colons (chars s)
both_off s r d b good e h is u =
    sym (chars_from_encodes (before_colons (chars s)) b.now u (sym (cut_off s (encodes (before_colons (chars s))) (58 ∷ 58 ∷ []) r d b (ends_as s good e) h is)))

-- the text before the second
pub one_off : (s : List ℕ) (r : Option (Bor (List ℕ))) (d b : Bor (List ℕ)) → IsUtf8 s → ends_in_colons (chars s) ≡ true
    → MatchOption r (FindsTextSuffix (58 ∷ []) s None) (λ x. StripsSuffix (FindsTextSuffix (58 ∷ [])) s x.now) → b ≡ unwrap_or r d → IsUtf8 b.now
    → chars b.now ≡ before_colons (chars s) ++ 58 ∷ []
one_off s r d b good e h is u =
    let t : List ℕ = before_colons (chars s) in
    let prefix : s ≡ (encodes (before_colons (chars s)) ++ 58 ∷ []) ++ 58 ∷ [] = ends_as s good e ∙ sym (append_assoc (encodes t) (58 ∷ []) (58 ∷ [])) in
    let one : encodes (before_colons (chars s) ++ 58 ∷ []) ≡ encodes (before_colons (chars s)) ++ 58 ∷ [] = encodes-append t (58 ∷ []) ∙ ap (λ x. encodes t ++ (x ++ [])) (encode_ascii 58 (omega arith)) in
    sym (chars_from_encodes (t ++ 58 ∷ []) b.now u (one ∙ sym (cut_off s (encodes t ++ 58 ∷ []) (58 ∷ []) r d b prefix h is)))

-- ---- the white space before them

trailing : (t : List ℕ) → (w : List ℕ) × (t ≡ drop_trailing_whitespace t ++ w)
trailing [] = ([], refl)
trailing (c ∷ cs) = by (is_whitespace c && length (drop_trailing_whitespace cs) == 0) refl (trailing cs)
  where
    by : (b : Bool) → (is_whitespace c && length (drop_trailing_whitespace cs) == 0) ≡ b → (w : List ℕ) × (cs ≡ drop_trailing_whitespace cs ++ w)
        → (w : List ℕ) × (c ∷ cs ≡ drop_trailing_whitespace (c ∷ cs) ++ w)
    by true e r = (c ∷ cs, rw e refl)
    by false e r = (r.0, rw e (ap (λ xs. c ∷ xs) r.1))

-- fewer bytes are fewer characters where the front of a text is all of it or less
fewer : (t d w : List ℕ) → t ≡ d ++ w → length (encodes d) < length (encodes t) → length d < length t
fewer t d [] e h = absurd (omega (arith, h, ap (λ x. length (encodes x)) e, ap length (encodes-append d []), length-append (encodes d) (encodes [])))
fewer t d (c ∷ cs) e h = omega (arith, ap length e, length-append d (c ∷ cs))

as_many : (t d w : List ℕ) → t ≡ d ++ w → length (encodes t) ≤ length (encodes d) → length t ≤ length d
as_many t d w e h = omega (arith, h, ap (λ x. length (encodes x)) e, ap length (encodes-append d w), length-append (encodes d) (encodes w), length-le-encodes w, ap length e, length-append d w)

-- what is left without the white space at the end
pub record IsBare (before bare : List ℕ) : Type 0 where
  pub good : IsUtf8 before
  pub utf8 : IsUtf8 bare
  pub value : bare ≡ trim_end before

bare_chars : (before bare : List ℕ) → IsBare before bare → chars bare ≡ drop_trailing_whitespace (chars before)
unfolding trim_end
bare_chars before bare h = sym (chars_from_encodes (drop_trailing_whitespace (chars before)) bare h.utf8 (sym h.value))

bare_bytes : (before bare : List ℕ) → IsBare before bare → bare ≡ encodes (drop_trailing_whitespace (chars before))
unfolding trim_end
bare_bytes before bare h = h.value

colons_gone : (s before : List ℕ) → ends_in_colons (chars s) ≡ true → chars before ≡ before_colons (chars s) → announced (chars s) ≡ without_colons (chars before)
colons_gone s before e b =
    ap (λ (x : Bool). if x then without_colons (before_colons (chars s)) else chars s) e ∙ ap without_colons (sym b)

-- both colons go
pub announced_bare : (s before bare : List ℕ) → ends_in_colons (chars s) ≡ true → chars before ≡ before_colons (chars s) → IsBare before bare
    → ((length bare < length before) ⊎ (is_blank (chars bare) ≡ true)) → chars bare ≡ announced (chars s)
announced_bare s before bare e b h (inl less) =
    let t : List ℕ = chars before in
    let d : List ℕ = drop_trailing_whitespace (chars before) in
    let some = trailing (chars before) in
    let shorter : length (drop_trailing_whitespace (chars before)) < length (chars before) =
    fewer t d some.0 some.1 (omega (arith, less, ap length (bare_bytes before bare h), ap length (encodes-chars before h.good))) in
    bare_chars before bare h
    ∙ sym (colons_gone s before e b ∙ ap (λ (x : Bool). if x || is_blank d then d else t ++ 58 ∷ []) (lt-ltb (length d) (length t) shorter))
announced_bare s before bare e b h (inr none) =
    let t : List ℕ = chars before in
    let d : List ℕ = drop_trailing_whitespace (chars before) in
    let blank : is_blank (drop_trailing_whitespace (chars before)) ≡ true = sym (ap is_blank (bare_chars before bare h)) ∙ none in
    bare_chars before bare h
    ∙ sym (colons_gone s before e b ∙ ap (λ (x : Bool). if ltb (length d) (length t) || x then d else t ++ 58 ∷ []) blank ∙ by (ltb (length d) (length t)))
  where
    by : (x : Bool) → (if x || true then drop_trailing_whitespace (chars before) else chars before ++ 58 ∷ []) ≡ drop_trailing_whitespace (chars before)
    by true = refl
    by false = refl

-- one colon goes
pub announced_one : (s before bare displayed : List ℕ) → ends_in_colons (chars s) ≡ true → chars before ≡ before_colons (chars s) → IsBare before bare
    → length before ≤ length bare → is_blank (chars bare) ≡ false → chars displayed ≡ before_colons (chars s) ++ 58 ∷ [] → chars displayed ≡ announced (chars s)
announced_one s before bare displayed e b h more some is =
    let t : List ℕ = chars before in
    let d : List ℕ = drop_trailing_whitespace (chars before) in
    let rest = trailing (chars before) in
    let filled : is_blank (drop_trailing_whitespace (chars before)) ≡ false = sym (ap is_blank (bare_chars before bare h)) ∙ some in
    let long : length (chars before) ≤ length (drop_trailing_whitespace (chars before)) =
    as_many t d rest.0 rest.1 (omega (arith, more, ap length (bare_bytes before bare h), ap length (encodes-chars before h.good))) in
    is ∙ ap (λ x. x ++ 58 ∷ []) (sym b)
    ∙ sym (colons_gone s before e b
    ∙ ap (λ (x : Bool). if x || is_blank d then d else t ++ 58 ∷ []) (le-ltb (length d) (length t) long)
    ∙ ap (λ (x : Bool). if x then d else t ++ 58 ∷ []) filled)

-- none goes
pub announced_all : (t : List ℕ) → ends_in_colons t ≡ false → t ≡ announced t
announced_all t h = rw h refl
