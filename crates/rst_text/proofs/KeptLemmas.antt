-- Texts one after another in some bytes.
use Rattle.std.proofs.Common.{◌≡◌, ℕ, zero, suc, ◌-◌, ◌<◌, ◌≤◌, ◌^◌, true, List, [], ◌∷◌, ◌++◌, length, get_or, take, drop, slice_range, refl, sym, ap, ◌∙◌, subst, arith, length-append, length-drop}
use Rattle.std.proofs.lemmas.List.{get_or_read, drop_at, drop-append-le, take-append-le, take_rest, length-take-le}
use Rattle.std.proofs.lemmas.Bool.{lt-ltb}
use Rattle.std.specs.List.{list_all}
use Rattle.std.specs.Str.{IsUtf8, chars, IsCharBoundary}
use Rattle.std.proofs.lemmas.Str.{encodes-chars, chars-nil, is_utf8-from_IsUtf8, IsUtf8-between, IsUtf8-drop, IsUtf8-append, IsCharBoundary-from_drop, IsCharBoundary-end, IsCharBoundary-at_seam}
use Rattle.rst_text.specs.Kept.{AreStarts, texts_in}
use Rattle.rst_text.specs.MayCut.{is_text}

-- ---- more bytes after the others

range-prefix : (xs ys : List ℕ) (a b : ℕ) → a ≤ b → b ≤ length xs → slice_range (xs ++ ys) a b ≡ slice_range xs a b
range-prefix xs ys a b order within =
    ap (take (b - a)) (drop-append-le a xs ys (omega arith)) ∙ take-append-le (b - a) (drop a xs) ys (omega (arith, length-drop a xs))

-- the bytes that were added
range-added : (xs ys : List ℕ) → slice_range (xs ++ ys) (length xs) (length (xs ++ ys)) ≡ ys
range-added xs ys = take_rest (xs ++ ys) (length xs) ∙ drop_at xs ys (length xs) refl

boundary-more : (xs ys : List ℕ) (k : ℕ) → IsUtf8 xs → IsUtf8 ys → IsCharBoundary xs k → IsCharBoundary (xs ++ ys) k
boundary-more xs ys k u w b =
    IsCharBoundary-from_drop (xs ++ ys) k (omega (arith, b.0, length-append xs ys)) (subst IsUtf8 (sym (drop-append-le k xs ys b.0)) (IsUtf8-append (drop k xs) ys (IsUtf8-drop xs k u b) w))

-- ---- where texts begin

-- in the words of the code
pub start-is : (i r : ℕ) (ss : List ℕ) → i < length ss → r ≡ get_or ss i r → r ≡ get_or ss i 0
start-is i r ss within e = get_or_read ss i r within e 0

pub start-boundary : (bs ss : List ℕ) (i : ℕ) → AreStarts bs ss → i < length ss → IsCharBoundary bs (get_or ss i 0)
start-boundary bs [] i h within = absurd h
start-boundary bs (s ∷ []) zero h within = subst (IsCharBoundary bs) (sym h) (IsCharBoundary-end bs)
start-boundary bs (s ∷ []) (suc i) h within = absurd (omega arith)
start-boundary bs (s ∷ e ∷ es) zero h within = h.1
start-boundary bs (s ∷ e ∷ es) (suc i) h within = start-boundary bs (e ∷ es) i h.2 (omega arith)

pub starts-rise : (bs ss : List ℕ) (i k : ℕ) → AreStarts bs ss → i ≤ k → k < length ss → get_or ss i 0 ≤ get_or ss k 0
starts-rise bs [] i k h order within = absurd h
starts-rise bs (s ∷ ss) zero zero h order within = omega arith
starts-rise bs (s ∷ ss) (suc i) zero h order within = absurd (omega arith)
starts-rise bs (s ∷ []) i (suc k) h order within = absurd (omega arith)
starts-rise bs (s ∷ e ∷ es) zero (suc k) h order within = omega (arith, h.0, starts-rise bs (e ∷ es) zero k h.2 (omega arith) (omega arith))
starts-rise bs (s ∷ e ∷ es) (suc i) (suc k) h order within = starts-rise bs (e ∷ es) i k h.2 (omega arith) (omega arith)

-- ---- one text more

pub starts-added : (xs ys ss : List ℕ) → IsUtf8 xs → IsUtf8 ys → AreStarts xs ss → AreStarts (xs ++ ys) (ss ++ length (xs ++ ys) ∷ [])
starts-added xs ys [] u w h = absurd h
starts-added xs ys (s ∷ []) u w h = (omega (arith, h, length-append xs ys), subst (IsCharBoundary (xs ++ ys)) (sym h) (IsCharBoundary-at_seam (xs ++ ys) xs ys refl w), refl)
starts-added xs ys (s ∷ e ∷ es) u w h = (h.0, boundary-more xs ys s u w h.1, starts-added xs ys (e ∷ es) u w h.2)

pub texts-added : (xs ys ss : List ℕ) → AreStarts xs ss → texts_in (xs ++ ys) (ss ++ length (xs ++ ys) ∷ []) ≡ texts_in xs ss ++ chars ys ∷ []
texts-added xs ys [] h = absurd h
texts-added xs ys (s ∷ []) h = rw h (ap (λ t. chars t ∷ []) (range-added xs ys))
texts-added xs ys (s ∷ e ∷ es) h = rw (range-prefix xs ys s e h.0 (start-boundary xs (e ∷ es) 0 h.2 (omega arith)).0, texts-added xs ys (e ∷ es) h.2) refl

-- ---- a text at a place

pub length_texts : (bs ss : List ℕ) → AreStarts bs ss → suc (length (texts_in bs ss)) ≡ length ss
length_texts bs [] h = absurd h
length_texts bs (s ∷ []) h = refl
length_texts bs (s ∷ e ∷ es) h = ap suc (length_texts bs (e ∷ es) h.2)

pub text-at : (bs ss : List ℕ) (i : ℕ) → AreStarts bs ss → suc i < length ss → get_or (texts_in bs ss) i [] ≡ chars (slice_range bs (get_or ss i 0) (get_or ss (suc i) 0))
text-at bs [] i h within = absurd h
text-at bs (s ∷ []) i h within = absurd (omega arith)
text-at bs (s ∷ e ∷ es) zero h within = refl
text-at bs (s ∷ e ∷ es) (suc i) h within = text-at bs (e ∷ es) i h.2 (omega arith)

-- ---- each text has UTF-8, which takes no more bytes than all of them

pub is_text-chars : (bs : List ℕ) → IsUtf8 bs → length bs < 2 ^ 63 → is_text (chars bs) ≡ true
is_text-chars bs u few = rw (encodes-chars bs u, is_utf8-from_IsUtf8 bs u) (lt-ltb (length bs) (2 ^ 63) few)

pub texts-of_starts : (bs ss : List ℕ) → IsUtf8 bs → length bs < 2 ^ 63 → AreStarts bs ss → list_all is_text (texts_in bs ss) ≡ true
texts-of_starts bs [] u few h = absurd h
texts-of_starts bs (s ∷ []) u few h = refl
texts-of_starts bs (s ∷ e ∷ es) u few h =
    let part : List ℕ = slice_range bs s e in
    let end_boundary : IsCharBoundary bs e = start-boundary bs (e ∷ es) 0 h.2 (omega arith) in
    let good : IsUtf8 part = IsUtf8-between bs s e u h.0 h.1 end_boundary in
    let short : length part ≤ length bs = omega (arith, h.0, end_boundary.0, length-drop s bs, length-take-le (e - s) (drop s bs) (omega (arith, h.0, end_boundary.0, length-drop s bs))) in
    rw (is_text-chars part good (omega arith), texts-of_starts bs (e ∷ es) u few h.2) refl

-- ---- empty texts

no_range : (bs : List ℕ) (a b : ℕ) → b ≤ a → chars (slice_range bs a b) ≡ []
no_range bs a b h = let none : b - a ≡ 0 = omega arith in ap (λ n. chars (take n (drop a bs))) none ∙ chars-nil

-- Where the last of some texts ends where the first begins, all are empty.
pub empty-between : (bs ss : List ℕ) (i end : ℕ) → AreStarts bs ss → end < length ss → get_or ss i 0 ≡ get_or ss end 0
    → (k : ℕ) → i ≤ k → k < end → get_or (texts_in bs ss) k [] ≡ []
empty-between bs ss i end h within same k low high =
    text-at bs ss k h (omega arith)
    ∙ no_range bs (get_or ss k 0) (get_or ss (suc k) 0) (omega (arith, starts-rise bs ss i k h low (omega arith), starts-rise bs ss (suc k) end h (omega arith) within))
