-- Characters and the texts that they spell.
use Rattle.std.proofs.Common.{◌≡◌, ℕ, ◌+◌, ◌-◌, ◌≤◌, ◌==◌, true, false, List, [], ◌∷◌, ◌++◌, length, take, drop, min, refl, sym, ap, ap₂, ◌∙◌, arith}
use Rattle.std.specs.Prelude.{string_bytes, encode_utf8_all}
use Rattle.std.specs.declared.string.String.{String}
use Rattle.std.specs.Str.{chars, IsUtf8}
use Rattle.std.proofs.Math.Nat.{min-le_right}
use Rattle.std.proofs.lemmas.Bool.{eqb-true}
use Rattle.std.proofs.lemmas.List.{append-nil, drop_all, drop-take, take_min, drop_min, length-take, nil_from_length}
use Rattle.std.proofs.lemmas.Str.{chars_from_encodes, encodes-append, encodes-chars, IsUtf8-string_bytes}
use Rattle.rst_tree.specs.Forest.{bare, words}
use Rattle.rst_tree.specs.declared.node.Node.TheVariants.{Text as Words}
use Rattle.rst_text.specs.Characters.{Text}
use Rattle.rst_inline.specs.declared.reading.Meaning.TheVariants.{Nothing, One}
use Rattle.rst_inline.specs.Elements.{text_children}
use Rattle.rst_inline.specs.Parts.{part, text_bytes}
use Rattle.rst_inline.specs.Readings.{plain_reading}

-- a part that ends within the text and begins before its end is the same
pub part-within : (t : Text) (low high h l : ℕ) → h ≡ min high (length t) → l ≡ min low h → drop l (take h t) ≡ part t low high
part-within t low high h l top bottom =
    ap (λ n. drop l (take n t)) top ∙ ap (drop l) (take_min high t) ∙ ap (λ n. drop n (take high t)) (bottom ∙ ap (min low) (top ∙ sym (length-take high t)))
    ∙ drop_min low (take high t)

pub part_is : (t : Text) (low high h l : ℕ) → h ≡ min high (length t) → l ≡ min low h → take (h - l) (drop l t) ≡ part t low high
part_is t low high h l top bottom =
    let e : l + (h - l) ≡ h = omega (arith, min-le_right low h) in
    sym (drop-take l (h - l) t) ∙ ap (λ n. drop l (take n t)) e ∙ part-within t low high h l top bottom

-- the characters of a text that some characters spell
pub chars-text_bytes : {A : Type 0} (s : String A) (cs : Text) → string_bytes s ≡ text_bytes cs → chars (string_bytes s) ≡ cs
chars-text_bytes s cs e = sym (chars_from_encodes cs (string_bytes s) (IsUtf8-string_bytes s) (sym e))

-- the bytes of two texts, one after the other
pub joined : (a b : Text) (xs ys : List ℕ) → xs ≡ text_bytes a → ys ≡ text_bytes b → xs ++ ys ≡ text_bytes (a ++ b)
joined a b xs ys first second = ap₂ (λ xs ys. xs ++ ys) first second ∙ sym (encodes-append a b)

-- what is written when no character is left is all
pub all-written : (out : List ℕ) (cs : Text) (i : ℕ) → length cs ≤ i → out ++ encode_utf8_all (drop i cs) ≡ text_bytes cs → out ≡ text_bytes cs
all-written out cs i past e = sym (append-nil out) ∙ ap (λ t. out ++ encode_utf8_all t) (sym (drop_all i cs past)) ∙ e

-- a star has one character
pub chars_of_star : chars (42 ∷ []) ≡ 42 ∷ []
unfolding chars
chars_of_star = refl

pub no_characters : chars [] ≡ []
unfolding chars
no_characters = refl

-- the bytes of a text are those that its characters spell
pub spelled_again : (bs : List ℕ) → IsUtf8 bs → bs ≡ text_bytes (chars bs)
spelled_again bs utf8 = sym (encodes-chars bs utf8)

-- ---- what is in an element that holds a text

some-words : (cs : Text) (bs : List ℕ) → bs ≡ text_bytes cs → (length bs == 0) ≡ false → words bs bare ≡ text_children cs
some-words [] bs e h = let none = ap (λ (x : List ℕ). length x == 0) e in absurd (cc)
some-words (c ∷ cs) bs e h = ap (λ s. words s bare) e

pub some-children : (bs : List ℕ) → IsUtf8 bs → (length bs == 0) ≡ false → words bs bare ≡ text_children (chars bs)
some-children bs utf8 h = some-words (chars bs) bs (spelled_again bs utf8) h

pub no-children : (bs : List ℕ) → (length bs == 0) ≡ true → bare ≡ text_children (chars bs)
unfolding chars
no-children bs h = sym (ap (λ (x : List ℕ). text_children (chars x)) (nil_from_length bs (eqb-true (length bs) 0 h)))

-- ---- what a plain text means

pub some_plain : (cs : Text) (bs : List ℕ) → bs ≡ text_bytes cs → (length bs == 0) ≡ false → One (Words bs) ≡ plain_reading cs
some_plain [] bs e h = let none = ap (λ (x : List ℕ). length x == 0) e in absurd (cc)
some_plain (c ∷ cs) bs e h = ap (λ s. One (Words s)) e

pub no_plain : (cs : Text) (bs : List ℕ) → chars bs ≡ cs → (length bs == 0) ≡ true → Nothing ≡ plain_reading cs
unfolding chars
no_plain cs bs e h = sym (ap plain_reading (sym e ∙ ap chars (nil_from_length bs (eqb-true (length bs) 0 h))))
