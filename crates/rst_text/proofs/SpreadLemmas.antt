-- Lines of which most are empty.
use Rattle.std.proofs.Common.{◌≡◌, ◌⊎◌, ⊎_elim, inl, inr, Result, MatchResult, ℕ, zero, suc, ◌+◌, ◌<◌, ◌≤◌, nat_eq, Bool, true, false, List, [], ◌∷◌, ◌++◌, append-nil, length, get_or, drop, map, refl, sym, ap, ◌∙◌, arith, eq-eqb, string_bytes, String, Option, None, Some}
use Rattle.std.proofs.lemmas.Bool.{and_parts, cases_Bool, ne_eqb}
use Rattle.std.proofs.lemmas.List.{drop_all, drop_more}
use Rattle.std.proofs.lemmas.List.FromFn.{length-map-range_with_len, get_or-map-range_with_len}
use Rattle.std.proofs.lemmas.List.Sorted.{searched}
use Rattle.std.specs.List.Sorted.{IsBinarySearchResult}
use Rattle.std.specs.Ordering.{nat_cmp}
use Rattle.std.proofs.lemmas.Str.{IsUtf8-string_bytes}
use Rattle.std.specs.List.{list_all, range_with_len, zip}
use Rattle.std.specs.Str.{chars, is_utf8}
use Rattle.std.specs.declared.vec.Vec.{Vec}
use Rattle.rst_settings.specs.declared.Parts.{Parts}
use Rattle.rst_text.specs.Block.{Line, first_text, first_number, first_parts}
use Rattle.rst_text.specs.Kept.{AreEmpty}
use Rattle.rst_text.specs.Lines.{is_line_text, are_lines}
use Rattle.rst_text.specs.MayCut.{is_text, are_texts}
use Rattle.rst_text.specs.Source.{texts_with, placed_text, spread, ArePlaced, kept_lines, AreKept}
use Rattle.rst_text.specs.Text.{chars_of}
use Rattle.rst_text.proofs.LineTexts.{is_line_text-nil}
use Rattle.rst_text.proofs.NumberedLemmas.{length-numbered, first_number-numbered, first_parts-numbered}
use Rattle.rst_text.proofs.KeptLemmas.{is_text-chars}

-- ---- lines made from their places

made-at : (f : ℕ → Line) (n i : ℕ) → i < n → drop i (map f (range_with_len 0 n)) ≡ f i ∷ drop (i + 1) (map f (range_with_len 0 n))
made-at f n i h =
    drop_more (map f (range_with_len 0 n)) i (f 0) (omega (arith, length-map-range_with_len f 0 n))
    ∙ ap (λ (l : Line). l ∷ drop (i + 1) (map f (range_with_len 0 n))) (get_or-map-range_with_len f 0 n i i (f 0) h (omega arith))

all-made : (q : List ℕ → Bool) (f : ℕ → Line) (a n : ℕ) → ((k : ℕ) → q (f k).text ≡ true) → list_all (λ (l : Line). q l.text) (map f (range_with_len a n)) ≡ true
all-made q f a zero h = refl
all-made q f a (suc n) h = rw (h a, all-made q f (a + 1) n h) refl

pub first_text-spread : (parts : Parts) (first count i : ℕ) (texts : List (ℕ × List ℕ)) → i < count → first_text (drop i (spread parts first count texts)) ≡ placed_text texts i
first_text-spread parts first count i texts h = ap first_text (made-at _ count i h)

-- ---- the places rise

no_less : (from to k : ℕ) (ps : List ℕ) (ts : List (List ℕ)) → length ts ≡ length ps → ArePlaced from to (zip ps ts) → k < length ps → from ≤ get_or ps k 0
no_less from to k [] ts long h within = absurd (omega arith)
no_less from to k (p ∷ ps) [] long h within = absurd (omega arith)
no_less from to zero (p ∷ ps) (t ∷ ts) long h within = h.0
no_less from to (suc k) (p ∷ ps) (t ∷ ts) long h within = omega (arith, h.0, no_less (p + 1) to k ps ts (omega arith) h.2 (omega arith))

pub rises : (from to i k : ℕ) (ps : List ℕ) (ts : List (List ℕ)) → length ts ≡ length ps → ArePlaced from to (zip ps ts) → i ≤ k → k < length ps → get_or ps i 0 ≤ get_or ps k 0
rises from to i k [] ts long h order within = absurd (omega arith)
rises from to i k (p ∷ ps) [] long h order within = absurd (omega arith)
rises from to zero zero (p ∷ ps) (t ∷ ts) long h order within = omega arith
rises from to zero (suc k) (p ∷ ps) (t ∷ ts) long h order within = omega (arith, no_less (p + 1) to k ps ts (omega arith) h.2 (omega arith))
rises from to (suc i) zero (p ∷ ps) (t ∷ ts) long h order within = absurd (omega arith)
rises from to (suc i) (suc k) (p ∷ ps) (t ∷ ts) long h order within = rises (p + 1) to i k ps ts (omega arith) h.2 (omega arith) (omega arith)

-- ---- the text at a place

pub kept-at : (from to r p : ℕ) (ps : List ℕ) (ts : List (List ℕ)) → length ts ≡ length ps → ArePlaced from to (zip ps ts) → r < length ps → get_or ps r 0 ≡ p → placed_text (zip ps ts) p ≡ get_or ts r []
kept-at from to r p [] ts long h within at = absurd (omega arith)
kept-at from to r p (q ∷ ps) [] long h within at = absurd (omega arith)
kept-at from to zero p (q ∷ ps) (t ∷ ts) long h within at = let same : nat_eq q p ≡ true = eq-eqb q p at in rw same refl
kept-at from to (suc r) p (q ∷ ps) (t ∷ ts) long h within at =
    let low : q + 1 ≤ get_or ps r 0 = no_less (q + 1) to r ps ts (omega arith) h.2 (omega arith) in
    let other : nat_eq q p ≡ false = ne_eqb q p (λ y. omega arith) in
    rw other (kept-at (q + 1) to r p ps ts (omega arith) h.2 (omega arith) at)

none-at : (p : ℕ) (ps : List ℕ) (ts : List (List ℕ)) → ((k : ℕ) → k < length ps → get_or ps k 0 ≡ p → ⊥) → placed_text (zip ps ts) p ≡ []
none-at p [] ts h = refl
none-at p (q ∷ ps) [] h = refl
none-at p (q ∷ ps) (t ∷ ts) h =
    let other : nat_eq q p ≡ false = ne_eqb q p (λ y. h 0 (omega arith) y) in
    rw other (none-at p ps ts (λ k within same. h (suc k) (omega arith) same))

-- where a search found a place, or where it would be
pub searched-place : (to i : ℕ) (ps : List ℕ) (ts : List (List ℕ)) (r : Result ℕ ℕ) → length ts ≡ length ps → ArePlaced 0 to (zip ps ts) → IsBinarySearchResult (λ y. nat_cmp y i) ps r
    → MatchResult r (λ k. (k < length ps) × (get_or ps k 0 ≡ i)) (λ k. (k ≤ length ps) × ((j : ℕ) → j < k → get_or ps j 0 < i) × ((j : ℕ) → k ≤ j → j < length ps → i < get_or ps j 0))
searched-place to i ps ts r long h found = searched ps i r found (λ j k order within. rises 0 to j k ps ts long h order within)

-- no place that is given is from one up to another
pub gap : (parts : Parts) (first count i end : ℕ) (ps : List ℕ) (ts : List (List ℕ)) → end ≤ count → ((j : ℕ) → j < length ps → (get_or ps j 0 < i) ⊎ (end ≤ get_or ps j 0)) → AreEmpty (spread parts first count (zip ps ts)) i end
gap parts first count i end ps ts within h = λ k low high.
    first_text-spread parts first count k (zip ps ts) (omega arith)
    ∙ none-at k ps ts (λ j inside same. elim (h j inside) [ inl before ↦ absurd (omega arith) | inr after ↦ absurd (omega arith) ])

-- ---- each text at a place passes a test that each given text passes, and the empty one

passes-at : (q : List ℕ → Bool) (texts : List (ℕ × List ℕ)) (p : ℕ) → q [] ≡ true → list_all (λ (t : ℕ × List ℕ). q t.1) texts ≡ true → q (placed_text texts p) ≡ true
passes-at q [] p none all = none
passes-at q (t ∷ ts) p none all =
    let h = and_parts (q t.1) (list_all (λ (u : ℕ × List ℕ). q u.1) ts) all in
    ⊎_elim (λ here. rw here h.0) (λ other. rw other (passes-at q ts p none h.1)) (cases_Bool (nat_eq t.0 p))

line_texts : (from to : ℕ) (texts : List (ℕ × List ℕ)) → ArePlaced from to texts → list_all (λ (t : ℕ × List ℕ). is_line_text t.1) texts ≡ true
line_texts from to [] h = refl
line_texts from to (t ∷ ts) h = rw (h.1, line_texts (t.0 + 1) to ts h.2) refl

pub are_lines-spread : (parts : Parts) (first count : ℕ) (texts : List (ℕ × List ℕ)) → ArePlaced 0 count texts → are_lines (spread parts first count texts) ≡ true
are_lines-spread parts first count texts h = all-made is_line_text _ 0 count (λ k. passes-at is_line_text texts k is_line_text-nil (line_texts 0 count texts h))

text-of_string : {A : Type 0} (s : String A) → is_text (chars_of s) ≡ true
text-of_string s = is_text-chars (string_bytes s) (IsUtf8-string_bytes s) (omega (arith, s.bytes.ok, s.bytes.small))

is_text-nil : is_text [] ≡ true
unfolding is_utf8 chars
is_text-nil = refl

texts-with : {A : Type 0} (texts : List (ℕ × String A)) → list_all (λ (t : ℕ × List ℕ). is_text t.1) (texts_with texts) ≡ true
texts-with [] = refl
texts-with (t ∷ ts) = rw (text-of_string t.1, texts-with ts) refl

pub are_texts-spread : {A : Type 0} (parts : Parts) (first count : ℕ) (texts : List (ℕ × String A)) → are_texts (spread parts first count (texts_with texts)) ≡ true
are_texts-spread parts first count texts = all-made is_text _ 0 count (λ k. passes-at is_text (texts_with texts) k is_text-nil (texts-with texts))

-- ---- places and texts that were taken apart

abbrev pub places_of : {A : Type 0} → List (ℕ × String A) → List ℕ
places_of texts = map (λ t. t.0) texts

abbrev pub texts_of : {A : Type 0} → List (ℕ × String A) → List (List ℕ)
texts_of texts = map (λ t. chars_of t.1) texts

zip-of_texts : {A : Type 0} (texts : List (ℕ × String A)) → zip (places_of texts) (texts_of texts) ≡ texts_with texts
zip-of_texts [] = refl
zip-of_texts (t ∷ ts) = ap (λ (us : List (ℕ × List ℕ)). (t.0, chars_of t.1) ∷ us) (zip-of_texts ts)

as_many : {A : Type 0} (texts : List (ℕ × String A)) → length (texts_of texts) ≡ length (places_of texts)
as_many [] = refl
as_many (t ∷ ts) = ap suc (as_many ts)

-- where no text is left
pub taken_apart : {A : Type 0} (texts : List (ℕ × String A)) (i : ℕ) (kept : List (List ℕ)) (places : List ℕ) → kept ++ texts_of (drop i texts) ≡ texts_of texts → places ++ places_of (drop i texts) ≡ places_of texts → length texts ≤ i
    → (length kept ≡ length places) × (zip places kept ≡ texts_with texts)
taken_apart texts i kept places p q past =
    let none : drop i texts ≡ [] = drop_all i texts past in
    let same : kept ≡ texts_of texts = sym (append-nil kept) ∙ ap (λ ts. kept ++ texts_of ts) (sym none) ∙ p in
    let at : places ≡ places_of texts = sym (append-nil places) ∙ ap (λ ts. places ++ places_of ts) (sym none) ∙ q in
    rw (same, at) (as_many texts, zip-of_texts texts)

-- ---- lines as they are kept

pub length-kept_lines : {A : Type 0} (parts : Parts) (first count : ℕ) (kept : List (List ℕ)) (places : Option (Vec ℕ A)) → AreKept count kept places → length (kept_lines parts first count kept places) ≡ count
length-kept_lines parts first count kept None h = length-numbered parts first kept ∙ h
length-kept_lines parts first count kept (Some places) h = length-map-range_with_len _ 0 count

pub number-kept_lines : {A : Type 0} (parts : Parts) (first count i : ℕ) (kept : List (List ℕ)) (places : Option (Vec ℕ A)) → AreKept count kept places → i < count → first_number (drop i (kept_lines parts first count kept places)) ≡ first + i
number-kept_lines parts first count i kept None h within = first_number-numbered parts first i kept (omega arith)
number-kept_lines parts first count i kept (Some places) h within = ap first_number (made-at _ count i within)

pub parts-kept_lines : {A : Type 0} (parts : Parts) (first count i : ℕ) (kept : List (List ℕ)) (places : Option (Vec ℕ A)) → AreKept count kept places → i < count → first_parts (drop i (kept_lines parts first count kept places)) ≡ parts
parts-kept_lines parts first count i kept None h within = first_parts-numbered parts first i kept (omega arith)
parts-kept_lines parts first count i kept (Some places) h within = ap first_parts (made-at _ count i within)
