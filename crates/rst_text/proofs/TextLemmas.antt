-- Lemmas on the text of bytes.
use Rattle.std.proofs.Common.{◌≡◌, ℕ, nat_eq, Bool, true, false, List, take, drop, [], ◌∷◌, ◌++◌, Option, None, Some, MatchOption, refl, sym, ap, ◌∙◌, Bor, unwrap_or}
use Rattle.std.specs.Prelude.{string_bytes, encode_utf8_all}
use Rattle.std.specs.declared.string.String.{String}
use Rattle.std.specs.Str.{IsUtf8, is_utf8, chars}
use Rattle.std.specs.Str.Pattern.{FindsCharPrefix, StripsPrefix}
use Rattle.std.proofs.Math.Utf8.{encode, encodes}
use Rattle.std.proofs.lemmas.Bool.{eqb-true, false_from_ne_true, and_parts}
use Rattle.std.proofs.lemmas.List.{take-append-drop}
use Rattle.std.proofs.lemmas.List.Folds.{list_all-append}
use Rattle.std.specs.List.{list_all}
use Rattle.std.proofs.lemmas.Str.{IsUtf8-from_is_utf8, IsUtf8-string_bytes, is_utf8-from_IsUtf8, chars_past_char, encodes-chars}
use Rattle.rst_text.specs.Text.{chars_of, text_of, without_mark}

-- a text is the bytes of its characters
pub bytes_encoded : {A : Type 0} (s : String A) → string_bytes s ≡ encode_utf8_all (chars_of s)
bytes_encoded s = sym (encodes-chars (string_bytes s) (IsUtf8-string_bytes s))

-- the bytes of a text with some characters
pub bytes_of_chars : {A : Type 0} (s : String A) (cs : List ℕ) → chars_of s ≡ cs → string_bytes s ≡ encode_utf8_all cs
bytes_of_chars s cs e = bytes_encoded s ∙ ap encode_utf8_all e

-- where each element passes a test, each of a front does, and each of the rest
pub all-parts : {X : Type 0} (p : X → Bool) (n : ℕ) (xs : List X) → list_all p xs ≡ true → (list_all p (take n xs) ≡ true) × (list_all p (drop n xs) ≡ true)
all-parts p n xs h = and_parts (list_all p (take n xs)) (list_all p (drop n xs)) (sym (list_all-append p (take n xs) (drop n xs)) ∙ ap (list_all p) (take-append-drop n xs) ∙ h)

pub all-between : {X : Type 0} (p : X → Bool) (i m : ℕ) (xs : List X) → list_all p xs ≡ true → list_all p (take m (drop i xs)) ≡ true
all-between p i m xs h = (all-parts p m (drop i xs) (all-parts p i xs h).1).0

-- bytes that are no UTF-8 have no text
pub text_of_none : (bytes : List ℕ) → ¬ (IsUtf8 bytes) → text_of bytes ≡ None
text_of_none bytes bad = let e : is_utf8 bytes ≡ false = false_from_ne_true (is_utf8 bytes) (λ t. bad (IsUtf8-from_is_utf8 bytes t)) in rw e refl

pub text_of_some : (bytes : List ℕ) → IsUtf8 bytes → text_of bytes ≡ Some (without_mark (chars bytes))
text_of_some bytes good = rw (is_utf8-from_IsUtf8 bytes good) refl

-- characters that don't begin with a mark stay as they are
without_mark-kept : (cs : List ℕ) → ((ds : List ℕ) → cs ≡ 0xFEFF ∷ ds → ⊥) → without_mark cs ≡ cs
without_mark-kept [] absent = refl
without_mark-kept (c ∷ cs) absent =
    let e : nat_eq c 0xFEFF ≡ false = false_from_ne_true (nat_eq c 0xFEFF) (λ t. absent cs (ap (λ x. x ∷ cs) (eqb-true c 0xFEFF t))) in rw e refl

-- what is left when a mark was stripped
pub chars-stripped : (whole kept : Bor (List ℕ)) (r : Option (Bor (List ℕ))) → IsUtf8 whole.now
    → MatchOption r (FindsCharPrefix 0xFEFF whole.now None) (λ x. StripsPrefix (FindsCharPrefix 0xFEFF) whole.now x.now)
    → kept ≡ unwrap_or r whole → chars kept.now ≡ without_mark (chars whole.now)
chars-stripped whole kept None good found is =
    ap (λ k. chars k.now) is ∙ sym (without_mark-kept (chars whole.now) (λ ds e. found (encodes ds) (sym (encodes-chars whole.now good) ∙ ap encodes e)))
chars-stripped whole kept (Some rest) good found is =
    let split : whole.now ≡ encode 0xFEFF ++ rest.now = found.1.split ∙ ap (λ l. encode 0xFEFF ++ l) (sym found.2) in
    ap (λ k. chars k.now) is ∙ sym (ap without_mark (chars_past_char whole.now rest.now 0xFEFF good split))
