-- The lines of a view, which is cut in bytes.
use Rattle.std.proofs.Common.{◌≡◌, ℕ, zero, suc, ◌+◌, ◌-◌, ◌<◌, ◌≤◌, ◌^◌, min, List, [], ◌∷◌, ◌++◌, ◌==◌, length, get_or, take, drop, map, refl, sym, ◌∙◌, ap, arith, append_assoc, length-drop, cond, eqb, inl, inr, subst, true, ◌||◌, leb, ltb}
use Rattle.std.proofs.lemmas.List.{drop-drop, drop_more, length-take, drop_all, take_all, drop_min, take-append-drop}
use Rattle.std.proofs.lemmas.List.Prefix.{end_rest}
use Rattle.std.proofs.Math.Nat.{min-eq_left, min-eq_right}
use Rattle.std.proofs.lemmas.Bool.{and_from, and_parts, cases_lt, eqb-true, le-leb, leb-true, ltb-true, or_right, true_from_ne_false}
use Rattle.std.specs.List.{list_all}
use Rattle.std.specs.Str.{chars, IsUtf8, is_utf8, IsCharBoundary}
use Rattle.std.proofs.Math.Utf8.{scalar, scalars, encode, encodes}
use Rattle.std.proofs.lemmas.Str.{chars-encodes, encodes-chars, scalars-chars, encode_ascii, chars_from_encodes, IsCharBoundary-from_drop, IsCharBoundary-end, IsUtf8-from_is_utf8, is_utf8-from_IsUtf8, IsUtf8-take, chars-append, chars-nil}
use Rattle.rst_text.specs.Block.{Line, Block, no_line, each_cut, shorten_all, cut, shorten, first_text, first_number, first_parts, indentation, is_blank}
use Rattle.rst_text.specs.ViewBlock.{block_of, without_bytes, byte_cut}
use Rattle.rst_text.specs.MayCut.{bytes_after, may_cut_at, is_indented, is_text, are_texts}
use Rattle.rst_text.specs.declared.view.View.{View}
use Rattle.rst_text.specs.Lines.{is_line_text, are_lines}
use Rattle.rst_text.proofs.CutLaws.{take_of, rest_of, each_cut-same, drop-each_cut, take-each_cut, length-each_cut}
use Rattle.rst_text.proofs.TextLemmas.{all-between}
use Rattle.rst_text.proofs.LineTexts.{is_line_text-first, is_line_text-nil, is_line_text-suffix}

-- ---- lines of a view

-- the lines of a text that a view cuts
abbrev kept : View → Block
kept v = take (v.to - v.from) (drop v.from v.lines.now)

pub length-block_of : (v : View) → length (block_of v) ≡ v.to - v.from
unfolding block_of
length-block_of v = length-each_cut without_bytes v.first v.rest (kept v) ∙ rw length-take (rw length-drop (omega (arith, v.ordered, v.fits)))

-- a line of a view is one of the lines
pub in_view : (v : View) (i : ℕ) → i < length (block_of v) → v.from + i < length v.lines.now
in_view v i h = omega (arith, length-block_of v, v.ordered, v.fits)

pub part_fits : (v : View) (j : ℕ) → j ≤ length (block_of v) → v.from + j ≤ v.to
part_fits v j h = omega (arith, length-block_of v, v.ordered)

-- a text has UTF-8, and is short enough
text-is : (cs : List ℕ) → is_text cs ≡ true → IsUtf8 (encodes cs) × (length (encodes cs) < 2 ^ 63)
text-is cs h =
    let t = and_parts (is_utf8 (encodes cs)) (ltb (length (encodes cs)) (2 ^ 63)) h in (IsUtf8-from_is_utf8 _ t.0, ltb-true (length (encodes cs)) (2 ^ 63) t.1)

-- the characters that bytes were made of
chars-back : (cs : List ℕ) → IsUtf8 (encodes cs) → chars (encodes cs) ≡ cs
chars-back cs u = sym (chars_from_encodes cs (encodes cs) u refl)

-- what may be cut, further on
may_part : (f r i m : ℕ) (xs : Block) → may_cut_at f r xs ≡ true → may_cut_at (cond (eqb i 0) f r) r (take m (drop i xs)) ≡ true
may_part f r i m xs h =
    ap (list_all is_utf8) (sym (ap (take m) (drop-each_cut bytes_after f r i xs) ∙ take-each_cut bytes_after (cond (eqb i 0) f r) r m (drop i xs)))
    ∙ all-between is_utf8 i m (each_cut bytes_after f r xs) h

first_line : (X : Block) (l : Line) → take 1 X ≡ l ∷ [] → (first_text X ≡ l.text) × (first_number X ≡ l.number) × (first_parts X ≡ l.parts)
first_line [] l e = (ap first_text e, ap first_number e, ap first_parts e)
first_line (x ∷ xs) l e = (ap first_text e, ap first_number e, ap first_parts e)

-- line i of a view is one of the text's, and may be cut
line_in_view : (v : View) (i : ℕ) → i < length (block_of v)
    → (l : Line) × (take 1 (drop (v.from + i) v.lines.now) ≡ l ∷ []) × (take 1 (drop i (block_of v)) ≡ without_bytes (cond (eqb i 0) v.first v.rest) l ∷ [])
    × IsUtf8 (bytes_after (cond (eqb i 0) v.first v.rest) l)
unfolding block_of
line_in_view v i h =
    let cut : ℕ = cond (eqb i 0) v.first v.rest in
    let lines : Block = v.lines.now in
    let l : Line = get_or lines (v.from + i) no_line in
    let here : take 1 (drop (v.from + i) lines) ≡ l ∷ [] = ap (take 1) (drop_more lines (v.from + i) no_line (in_view v i h)) in
    let same : take 1 (drop i (kept v)) ≡ l ∷ [] = take_of i 1 (v.to - v.from) (drop v.from lines) (omega (arith, length-block_of v)) ∙ ap (take 1) (drop-drop i v.from lines) ∙ here in
    let may : list_all is_utf8 (each_cut bytes_after cut v.rest (l ∷ [])) ≡ true = subst (λ (B : Block). may_cut_at cut v.rest B ≡ true) same (may_part v.first v.rest i 1 (kept v) v.may_cut) in
    let cut_is = ap (take 1) (drop-each_cut without_bytes v.first v.rest i (kept v)) ∙ take-each_cut without_bytes cut v.rest 1 (drop i (kept v)) ∙ ap (each_cut without_bytes cut v.rest) same in
    (l, here, cut_is, IsUtf8-from_is_utf8 _ (and_parts (is_utf8 (bytes_after cut l)) true may).0)

pub text_in_view : (v : View) (i : ℕ) → i < length (block_of v) → first_text (drop i (block_of v)) ≡ chars (drop (cond (eqb i 0) v.first v.rest) (encodes (first_text (drop (v.from + i) v.lines.now))))
text_in_view v i h =
    let x = line_in_view v i h in
    (first_line _ _ x.2).0 ∙ ap (λ (cs : List ℕ). chars (drop (cond (eqb i 0) v.first v.rest) (encodes cs))) (sym (first_line _ _ x.1).0)

-- a line that is empty is so with any cut
pub empty_in_view : (v : View) (i : ℕ) → i < length (block_of v) → first_text (drop (v.from + i) v.lines.now) ≡ [] → first_text (drop i (block_of v)) ≡ []
empty_in_view v i h none =
    let cut : ℕ = cond (eqb i 0) v.first v.rest in
    text_in_view v i h ∙ ap (λ (cs : List ℕ). chars (drop cut (encodes cs))) none ∙ ap chars (drop_all cut [] (omega arith)) ∙ chars-nil

pub number_in_view : (v : View) (i : ℕ) → i < length (block_of v) → first_number (drop i (block_of v)) ≡ first_number (drop (v.from + i) v.lines.now)
number_in_view v i h = let x = line_in_view v i h in (first_line _ _ x.2).1 ∙ sym (first_line _ _ x.1).1

pub parts_in_view : (v : View) (i : ℕ) → i < length (block_of v) → first_parts (drop i (block_of v)) ≡ first_parts (drop (v.from + i) v.lines.now)
parts_in_view v i h = let x = line_in_view v i h in (first_line _ _ x.2).2 ∙ sym (first_line _ _ x.1).2

pub utf8_in_view : (v : View) (i : ℕ) → i < length (block_of v) → IsUtf8 (drop (cond (eqb i 0) v.first v.rest) (encodes (first_text (drop (v.from + i) v.lines.now))))
utf8_in_view v i h =
    let x = line_in_view v i h in subst (λ (cs : List ℕ). IsUtf8 (drop (cond (eqb i 0) v.first v.rest) (encodes cs))) (sym (first_line _ _ x.1).0) x.3

-- where a text may be cut, cut down to its end
pub boundary : (n k : ℕ) (bs : List ℕ) → IsUtf8 (drop n bs) → k ≡ min n (length bs) → IsCharBoundary bs k
boundary n k bs u e = elim (cases_lt n (length bs)) [
  | inl below ↦ (let same : k ≡ n = omega arith in rw same (IsCharBoundary-from_drop bs n (omega arith) u))
  | inr over ↦ (let same : k ≡ length bs = omega arith in rw same (IsCharBoundary-end bs))
]

pub drop_short : (n k : ℕ) (bs : List ℕ) → k ≡ min n (length bs) → drop k bs ≡ drop n bs
drop_short n k bs e = ap (λ m. drop m bs) e ∙ drop_min n bs

-- Cuts of cuts.

-- a text that is indented begins with a space
space : (c : ℕ) (cs : List ℕ) → 1 ≤ indentation (c ∷ cs) → c ≡ 32
space c cs h = eqb-true c 32 (true_from_ne_false (c == 32) (λ e. let none = rw e at h in omega arith))

-- the first r characters are spaces, or there are none
drop_spaces : (r : ℕ) (cs : List ℕ) → (is_blank cs || leb r (indentation cs)) ≡ true → drop r (encodes cs) ≡ encodes (drop r cs)
drop_spaces zero cs h = refl
drop_spaces (suc r) [] h = refl
drop_spaces (suc r) (c ∷ cs) h =
    let few : suc r ≤ indentation (c ∷ cs) = leb-true (suc r) (indentation (c ∷ cs)) h in
    let same : c ≡ 32 = space c cs (omega arith) in
    let one : encode c ≡ 32 ∷ [] = ap encode same ∙ encode_ascii 32 (omega arith) in
    let more : indentation (c ∷ cs) ≡ suc (indentation cs) = rw same refl in
    ap (λ (x : List ℕ). drop (suc r) (x ++ encodes cs)) one ∙ drop_spaces r cs (or_right (is_blank cs) (leb r (indentation cs)) (le-leb r (indentation cs) (omega arith)))

-- characters that a text can hold, in a front and in a rest of it
pub scalars-take : (n : ℕ) (cs : List ℕ) → scalars cs ≡ true → scalars (take n cs) ≡ true
scalars-take zero cs s = refl
scalars-take (suc n) [] s = refl
scalars-take (suc n) (c ∷ cs) s = let parts = and_parts (scalar c) (scalars cs) s in and_from (scalar c) (scalars (take n cs)) parts.0 (scalars-take n cs parts.1)

pub scalars-drop : (r : ℕ) (cs : List ℕ) → scalars cs ≡ true → scalars (drop r cs) ≡ true
scalars-drop zero cs s = s
scalars-drop (suc r) [] s = refl
scalars-drop (suc r) (c ∷ cs) s = scalars-drop r cs (and_parts (scalar c) (scalars cs) s).1

-- a text without r spaces
cut_spaces : (r : ℕ) (bs : List ℕ) → IsUtf8 bs → (is_blank (chars bs) || leb r (indentation (chars bs))) ≡ true → IsUtf8 (drop r bs) × (chars (drop r bs) ≡ drop r (chars bs))
cut_spaces r bs u h =
    let cs : List ℕ = chars bs in
    let d : drop r bs ≡ encodes (drop r cs) = ap (drop r) (sym (encodes-chars bs u)) ∙ drop_spaces r cs h in
    let t : scalars (drop r cs) ≡ true = scalars-drop r cs (scalars-chars bs u) in
    ((drop r cs, (t, sym d)), ap chars d ∙ chars-encodes (drop r cs) t)

drop_most : (a b : ℕ) (t : List ℕ) → length t < 2 ^ 63 → drop b (drop a t) ≡ drop (min (a + b) (2 ^ 64 - 1)) t
drop_most a b t h =
    elim (cases_lt (a + b) (2 ^ 64 - 1)) [
      | inl below ↦ (let few : a + b ≤ 2 ^ 64 - 1 = omega arith in drop-drop b a t ∙ ap (λ n. drop n t) (sym (min-eq_left few)))
      | inr above ↦ drop-drop b a t ∙ drop_all (a + b) t (omega arith) ∙ sym (drop_all (2 ^ 64 - 1) t (omega arith)) ∙ ap (λ n. drop n t) (sym (min-eq_right above))
    ]

-- a line with other characters
abbrev with_text : Line → List ℕ → Line
with_text l cs = record { number = l.number; text = cs; parts = l.parts }

rest_lines : (a r : ℕ) (xs : Block) → are_texts xs ≡ true → list_all is_utf8 (map (bytes_after a) xs) ≡ true → is_indented r (map (without_bytes a) xs) ≡ true
    → (list_all is_utf8 (map (bytes_after (min (a + r) (2 ^ 64 - 1))) xs) ≡ true) × (map (shorten r) (map (without_bytes a) xs) ≡ map (without_bytes (min (a + r) (2 ^ 64 - 1))) xs)
rest_lines a r [] t m h = (refl, refl)
rest_lines a r (x ∷ xs) t m h =
    let texts = and_parts (is_text x.text) (are_texts xs) t in
    let may = and_parts (is_utf8 (bytes_after a x)) (list_all is_utf8 (map (bytes_after a) xs)) m in
    let both = and_parts (is_blank (without_bytes a x).text || leb r (indentation (without_bytes a x).text)) (is_indented r (map (without_bytes a) xs)) h in
    let one = cut_spaces r (bytes_after a x) (IsUtf8-from_is_utf8 _ may.0) both.0 in
    let more = rest_lines a r xs texts.1 may.1 both.1 in
    let same : drop r (bytes_after a x) ≡ bytes_after (min (a + r) (2 ^ 64 - 1)) x = drop_most a r (encodes x.text) (text-is x.text texts.0).1 in
    let line : shorten r (without_bytes a x) ≡ without_bytes (min (a + r) (2 ^ 64 - 1)) x = ap (with_text x) (sym one.1 ∙ ap chars same) in
    (rw (is_utf8-from_IsUtf8 (bytes_after (min (a + r) (2 ^ 64 - 1)) x) (subst IsUtf8 same one.0), more.0) refl, rw (line, more.1) refl)

-- a text without g characters more than `a` bytes is the text without `left` bytes
abbrev Leaves : ℕ → ℕ → ℕ → List ℕ → Type 0
Leaves a g left cs = IsUtf8 (drop left (encodes cs)) × (chars (drop left (encodes cs)) ≡ drop g (chars (drop a (encodes cs))))

cut_lines : (a b g r left : ℕ) (xs : Block) → are_texts xs ≡ true → may_cut_at a b xs ≡ true → is_indented r (drop 1 (byte_cut a b xs)) ≡ true → (0 < length xs → Leaves a g left (first_text xs))
    → (may_cut_at left (min (b + r) (2 ^ 64 - 1)) xs ≡ true) × (byte_cut left (min (b + r) (2 ^ 64 - 1)) xs ≡ shorten_all g r (byte_cut a b xs))
cut_lines a b g r left [] t m h first = (refl, refl)
cut_lines a b g r left (x ∷ xs) t m h first =
    let f = first (omega arith) in
    let more = rest_lines b r xs (and_parts (is_text x.text) (are_texts xs) t).1 (and_parts (is_utf8 (bytes_after a x)) (list_all is_utf8 (map (bytes_after b) xs)) m).1 h in
    let line : without_bytes left x ≡ shorten g (without_bytes a x) = ap (with_text x) f.1 in
    (rw (is_utf8-from_IsUtf8 (bytes_after left x) f.0, more.0) refl, rw (line, more.1) refl)

first_text-take : (m : ℕ) (xs : Block) → 0 < m → first_text (take m xs) ≡ first_text xs
first_text-take zero xs h = absurd (omega arith)
first_text-take (suc m) [] h = refl
first_text-take (suc m) (x ∷ xs) h = refl

-- lines i to j - 1 of a view
pub part_of : (v : View) (i j g s left : ℕ) → i ≤ j → j ≤ v.to - v.from
    → is_indented s (take (j - (i + 1)) (drop (i + 1) (block_of v))) ≡ true
    → (i < j → Leaves (cond (eqb i 0) v.first v.rest) g left (first_text (drop (v.from + i) v.lines.now)))
    → (may_cut_at left (min (v.rest + s) (2 ^ 64 - 1)) (take (j - i) (drop (v.from + i) v.lines.now)) ≡ true)
    × (byte_cut left (min (v.rest + s) (2 ^ 64 - 1)) (take (j - i) (drop (v.from + i) v.lines.now)) ≡ cut (block_of v) i j g s)
unfolding block_of
part_of v i j g s left below within white first =
    let F : ℕ = cond (eqb i 0) v.first v.rest in
    let ys : Block = take (j - i) (drop (v.from + i) v.lines.now) in
    let same : take (j - i) (drop i (kept v)) ≡ ys = take_of i (j - i) (v.to - v.from) (drop v.from v.lines.now) (omega arith) ∙ ap (λ (B : Block). take (j - i) B) (drop-drop i v.from v.lines.now) in
    let may : may_cut_at F v.rest ys ≡ true = subst (λ (B : Block). may_cut_at F v.rest B ≡ true) same (may_part v.first v.rest i (j - i) (kept v) v.may_cut) in
    let texts : are_texts ys ≡ true = all-between (λ (l : Line). is_text l.text) (v.from + i) (j - i) v.lines.now v.of_texts in
    let shows : take (j - i) (drop i (block_of v)) ≡ byte_cut F v.rest ys =
    ap (λ (B : Block). take (j - i) B) (drop-each_cut without_bytes v.first v.rest i (kept v)) ∙ take-each_cut without_bytes F v.rest (j - i) (drop i (kept v)) ∙ ap (byte_cut F v.rest) same in
    let indented : is_indented s (drop 1 (byte_cut F v.rest ys)) ≡ true = sym (ap (is_indented s) (rest_of i j (block_of v) ∙ ap (λ (B : Block). drop 1 B) shows)) ∙ white in
    let lines = cut_lines F v.rest g s left ys texts may indented beginning in
    (lines.0, lines.1 ∙ sym (ap (shorten_all g s) shows))
  where
    beginning : 0 < length (take (j - i) (drop (v.from + i) v.lines.now)) → Leaves (cond (eqb i 0) v.first v.rest) g left (first_text (take (j - i) (drop (v.from + i) v.lines.now)))
    beginning some =
        let n : i < j = omega (arith, length-take {A = Line}) in
        subst (Leaves (cond (eqb i 0) v.first v.rest) g left) (sym (first_text-take (j - i) (drop (v.from + i) v.lines.now) (omega arith))) (first n)

-- All the lines.
each_whole : (xs : Block) → are_texts xs ≡ true → (list_all is_utf8 (map (bytes_after 0) xs) ≡ true) × (map (without_bytes 0) xs ≡ xs)
each_whole [] t = (refl, refl)
each_whole (x ∷ xs) t =
    let texts = and_parts (is_text x.text) (are_texts xs) t in
    let good = (text-is x.text texts.0).0 in
    let more = each_whole xs texts.1 in
    let line : without_bytes 0 x ≡ x = ap (with_text x) (chars-back x.text good) in
    (rw (is_utf8-from_IsUtf8 (encodes x.text) good, more.0) refl, rw (line, more.1) refl)

pub whole_lines : (xs : Block) → are_texts xs ≡ true → byte_cut 0 0 (take (length xs - 0) xs) ≡ xs
whole_lines xs t = ap (byte_cut 0 0) (take_all (length xs - 0) xs (omega arith)) ∙ each_cut-same without_bytes 0 xs ∙ (each_whole xs t).1

pub whole_all : (xs : Block) → are_texts xs ≡ true → may_cut_at 0 0 (take (length xs - 0) xs) ≡ true
whole_all xs t = ap (may_cut_at 0 0) (take_all (length xs - 0) xs (omega arith)) ∙ ap (list_all is_utf8) (each_cut-same bytes_after 0 xs) ∙ (each_whole xs t).0

-- what is left of a text that ends in `left`
ends_in : (bs beginning left : List ℕ) (a : ℕ) → drop a bs ≡ beginning ++ left → drop (length bs - length left) bs ≡ left
ends_in bs beginning left a e = end_rest bs left (take a bs ++ beginning) (sym (take-append-drop a bs) ∙ ap (λ l. take a bs ++ l) e ∙ sym (append_assoc (take a bs) beginning left))

-- what is skipped from a line, in the words of the code
pub leaves : (a b g left : ℕ) (cs bs beginning rest tail : List ℕ) → bs ≡ encodes cs → b ≡ a → tail ≡ drop b bs → tail ≡ beginning ++ rest → IsUtf8 rest → chars rest ≡ drop g (chars tail) → left ≡ length bs - length rest
    → Leaves a g left cs
leaves a b g left cs bs beginning rest tail same cut t e u v n =
    let whole : tail ≡ drop a (encodes cs) = t ∙ ap (λ k. drop k bs) cut ∙ ap (drop a) same in
    let d : drop left (encodes cs) ≡ rest = ap (drop left) (sym same) ∙ ap (λ k. drop k bs) n ∙ ends_in bs beginning rest a (ap (drop a) same ∙ sym whole ∙ e) in
    (subst IsUtf8 (sym d) u, ap chars d ∙ v ∙ ap (λ l. drop g (chars l)) whole)

-- ---- the texts of a view

-- what is left of a line's text, without some of its bytes
line_text-bytes : (n : ℕ) (bs : List ℕ) → IsUtf8 bs → IsUtf8 (drop n bs) → is_line_text (chars bs) ≡ true → is_line_text (chars (drop n bs)) ≡ true
line_text-bytes n bs u v h = elim (cases_lt n (length bs)) [
  | inl below ↦
      (let beginning : IsUtf8 (take n bs) = IsUtf8-take bs n u (IsCharBoundary-from_drop bs n (omega arith) v) in
      let whole : chars bs ≡ chars (take n bs) ++ chars (drop n bs) = ap chars (sym (take-append-drop n bs)) ∙ chars-append (take n bs) (drop n bs) beginning in
      is_line_text-suffix (chars (take n bs)) (chars (drop n bs)) (sym (ap is_line_text whole) ∙ h))
  | inr over ↦ ap (λ l. is_line_text (chars l)) (drop_all n bs over) ∙ ap is_line_text chars-nil ∙ is_line_text-nil
]

are_lines-byte_cut : (f r : ℕ) (xs : Block) → are_texts xs ≡ true → may_cut_at f r xs ≡ true → are_lines xs ≡ true → are_lines (byte_cut f r xs) ≡ true
are_lines-byte_cut f r [] t m h = refl
are_lines-byte_cut f r (x ∷ xs) t m h =
    let texts = and_parts (is_text x.text) (are_texts xs) t in
    let may = and_parts (is_utf8 (bytes_after f x)) (list_all is_utf8 (map (bytes_after r) xs)) m in
    let lines = and_parts (is_line_text x.text) (are_lines xs) h in
    let good = (text-is x.text texts.0).0 in
    let rest = are_lines-byte_cut r r xs texts.1 (ap (list_all is_utf8) (each_cut-same bytes_after r xs) ∙ may.1) lines.1 in
    rw (line_text-bytes f (encodes x.text) good (IsUtf8-from_is_utf8 _ may.0) (ap is_line_text (chars-back x.text good) ∙ lines.0), ← each_cut-same without_bytes r xs) rest

-- The lines of a view hold no line end, and no white at their ends.
pub are_lines-block_of : (v : View) → are_lines (block_of v) ≡ true
unfolding block_of
are_lines-block_of v =
    are_lines-byte_cut v.first v.rest (kept v) (all-between (λ (l : Line). is_text l.text) v.from (v.to - v.from) v.lines.now v.of_texts) v.may_cut
    (all-between (λ (l : Line). is_line_text l.text) v.from (v.to - v.from) v.lines.now v.of_lines)

pub is_line_text-line : (v : View) (i : ℕ) → is_line_text (first_text (drop i (block_of v))) ≡ true
is_line_text-line v i = is_line_text-first i (block_of v) (are_lines-block_of v)
