-- Two colons at the end of a text, and the backslashes before them.
use Rattle.std.proofs.Common.{◌≡◌, ◌≢◌, ℕ, zero, suc, ◌+◌, ◌-◌, ◌≤◌, ◌==◌, Bool, true, false, not, ltb, get_or, List, [], ◌∷◌, ◌++◌, length, length-append, take, drop, arith, refl, sym, ap, ap₂, ◌∙◌}
use Rattle.std.specs.Str.{chars, IsUtf8}
use Rattle.std.proofs.Math.ListN.{get_or-append}
use Rattle.std.proofs.Math.Seq.{drop-cons, get_or-append_seam}
use Rattle.std.proofs.Math.Utf8.{encode, encodes}
use Rattle.std.proofs.lemmas.Bool.{and_parts, eqb-true, leb-true, lt-ltb, le-leb}
use Rattle.std.proofs.lemmas.List.{drop_all, get_or-append-add, take-append-drop}
use Rattle.std.proofs.lemmas.Str.{chars-append, encodes-append, encodes-chars}
use Rattle.rst_text.specs.Escapes.{escapes, is_escaped}
use Rattle.rst_text.proofs.EscapeLemmas.{is_escaped-bare, is_escaped-more, is_escaped-start, other-bare}
use Rattle.rst_markup_lines.specs.Closing.{ends_in_colons}

-- a text escapes what follows it
abbrev pub escapes_next : List ℕ → Bool
escapes_next t = is_escaped t 0 (length t)

front-alone : (xs ys : List ℕ) (n : ℕ) → n ≤ length xs → is_escaped (xs ++ ys) 0 n ≡ is_escaped xs 0 n
unfolding is_escaped
front-alone xs ys zero h = refl
front-alone xs ys (suc n) h = rw (get_or-append xs ys 0 n (omega arith), front-alone xs ys n (omega arith)) refl

last-is : (t : List ℕ) (n c : ℕ) → length t ≡ suc n → get_or t n 0 ≡ c → t ≡ take n t ++ c ∷ []
last-is t n c e h =
    sym (take-append-drop n t) ∙ ap (λ l. take n t ++ l) (drop-cons t n 0 (omega (arith, e)) ∙ ap₂ (λ x l. x ∷ l) h (drop_all (suc n) t (omega (arith, e))))

-- ---- backslashes

one_more : (xs : List ℕ) → escapes_next (xs ++ 92 ∷ []) ≡ not (escapes_next xs)
one_more xs =
    let long : length (xs ++ 92 ∷ []) ≡ length xs + 1 = length-append xs (92 ∷ []) in
    rw long (is_escaped-more (xs ++ 92 ∷ []) 0 (length xs) (omega arith) ∙ ap₂ escapes (get_or-append_seam xs 92 [] 0) (front-alone xs (92 ∷ []) (length xs) (omega arith)))

none_last : (t : List ℕ) → ((front : List ℕ) → t ≢ front ++ 92 ∷ []) → escapes_next t ≡ false
none_last t none = by (length t) refl
  where
    ends : (n : ℕ) → length t ≡ suc n → (b : Bool) → (get_or t n 0 == 92) ≡ b → escapes_next t ≡ false
    ends n e true is = absurd (none (take n t) (last-is t n 92 e (eqb-true _ _ is)))
    ends n e false is = let all : length t ≡ n + 1 = omega (arith, e) in rw all (is_escaped-bare t 0 n (omega arith) (other-bare t n is))

    by : (n : ℕ) → length t ≡ n → escapes_next t ≡ false
    by zero e = rw e (is_escaped-start t 0)
    by (suc n) e = ends n e (get_or t n 0 == 92) refl

-- ---- two colons

record HasColons (t : List ℕ) : Type 0 where
  some : 2 ≤ length t
  one : get_or t (length t - 2) 0 ≡ 58
  two : get_or t (length t - 1) 0 ≡ 58

has_colons : (t : List ℕ) → ends_in_colons t ≡ true → HasColons t
has_colons t h =
    let rest = and_parts _ _ (and_parts _ _ h).1 in
    record {
      some = leb-true 2 (length t) (and_parts _ _ h).0;
      one = eqb-true (get_or t (length t - 2) 0) 58 (and_parts (ltb (length t - 2) (length t)) (get_or t (length t - 2) 0 == 58) rest.0).1;
      two = eqb-true (get_or t (length t - 1) 0) 58 (and_parts (ltb (length t - 1) (length t)) (get_or t (length t - 1) 0 == 58) (and_parts _ _ rest.1).0).1;
    }

two_last : (t : List ℕ) → HasColons t → t ≡ take (length t - 2) t ++ 58 ∷ 58 ∷ []
two_last t h =
    let next : suc (length t - 2) ≡ length t - 1 = omega (arith, h.some) in
    let end : suc (length t - 1) ≡ length t = omega (arith, h.some) in
    let last : drop (length t - 1) t ≡ 58 ∷ [] =
    drop-cons t (length t - 1) 0 (omega (arith, h.some)) ∙ ap (λ x. x ∷ drop (suc (length t - 1)) t) h.two ∙ ap (λ n. 58 ∷ drop n t) end ∙ ap (λ x. 58 ∷ x) (drop_all (length t) t (omega arith)) in
    sym (take-append-drop (length t - 2) t)
    ∙ ap (λ x. take (length t - 2) t ++ x)
    (drop-cons t (length t - 2) 0 (omega (arith, h.some)) ∙ ap (λ x. x ∷ drop (suc (length t - 2)) t) h.one ∙ ap (λ n. 58 ∷ drop n t) next ∙ ap (λ x. 58 ∷ x) last)

no_colons : (t : List ℕ) → ((front : List ℕ) → t ≢ front ++ 58 ∷ 58 ∷ []) → ends_in_colons t ≡ false
no_colons t none = by (ends_in_colons t) refl
  where
    by : (b : Bool) → ends_in_colons t ≡ b → ends_in_colons t ≡ false
    by true e = absurd (none (take (length t - 2) t) (two_last t (has_colons t e)))
    by false e = e

colons : (xs : List ℕ) → ends_in_colons (xs ++ 58 ∷ 58 ∷ []) ≡ not (escapes_next xs)
colons xs =
    let t : List ℕ = xs ++ 58 ∷ 58 ∷ [] in
    let long : length (xs ++ 58 ∷ 58 ∷ []) ≡ length xs + 2 = length-append xs (58 ∷ 58 ∷ []) in
    let first : length xs + 2 - 2 ≡ length xs + 0 = omega arith in
    let second : length xs + 2 - 1 ≡ length xs + 1 = omega arith in
    rw (
      long,
      first,
      second,
      get_or-append-add xs (58 ∷ 58 ∷ []) 0 0,
      get_or-append-add xs (58 ∷ 58 ∷ []) 1 0,
      front-alone xs (58 ∷ 58 ∷ []) (length xs + 0) (omega arith),
      le-leb 2 (length xs + 2) (omega arith),
      lt-ltb (length xs + 0) (length xs + 2) (omega arith),
      lt-ltb (length xs + 1) (length xs + 2) (omega arith),
    )
    (ap (λ n. not (is_escaped xs 0 n)) (let e : length xs + 0 ≡ length xs = omega arith in e))

-- ---- the same of the bytes of a text

-- the characters of bytes that end in ASCII
chars_end : (s front end : List ℕ) → IsUtf8 front → s ≡ front ++ end → chars end ≡ end → chars s ≡ chars front ++ end
chars_end s front end good e same = ap chars e ∙ chars-append front end good ∙ ap (λ l. chars front ++ l) same

-- ASCII that doesn't end the bytes doesn't end the characters
chars_none : (s end : List ℕ) → IsUtf8 s → encodes end ≡ end → ((front : List ℕ) → s ≢ front ++ end) → (front : List ℕ) → chars s ≢ front ++ end
chars_none s end good same none front e = none (encodes front) (sym (encodes-chars s good) ∙ ap encodes e ∙ encodes-append front end ∙ ap (λ l. encodes front ++ l) same)

pub colons_last : (s before : List ℕ) → IsUtf8 before → s ≡ before ++ 58 ∷ 58 ∷ [] → ends_in_colons (chars s) ≡ not (escapes_next (chars before))
unfolding chars
colons_last s before good e = ap ends_in_colons (chars_end s before (58 ∷ 58 ∷ []) good e refl) ∙ colons (chars before)

pub colons_none : (s : List ℕ) → IsUtf8 s → ((front : List ℕ) → s ≢ front ++ 58 ∷ 58 ∷ []) → ends_in_colons (chars s) ≡ false
unfolding encode
colons_none s good none = no_colons (chars s) (chars_none s (58 ∷ 58 ∷ []) good refl none)

pub backslash_last : (s fewer : List ℕ) → IsUtf8 fewer → s ≡ fewer ++ 92 ∷ [] → escapes_next (chars s) ≡ not (escapes_next (chars fewer))
unfolding chars
backslash_last s fewer good e = ap escapes_next (chars_end s fewer (92 ∷ []) good e refl) ∙ one_more (chars fewer)

pub backslash_none : (s : List ℕ) → IsUtf8 s → ((front : List ℕ) → s ≢ front ++ 92 ∷ []) → escapes_next (chars s) ≡ false
unfolding encode
backslash_none s good none = none_last (chars s) (chars_none s (92 ∷ []) good refl none)
