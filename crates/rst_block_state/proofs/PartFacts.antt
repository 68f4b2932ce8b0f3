-- Parts of a block as blocks: how many lines they have, and that they begin with a line that isn't blank.
use Rattle.std.proofs.Common.{◌≡◌, ℕ, zero, suc, ◌+◌, ◌-◌, ◌<◌, ◌≤◌, min, Bool, true, false, not, ◌&&◌, ◌||◌, ◌==◌, cond, List, [], ◌∷◌, length, take, drop, map, length-drop, length-take, arith, refl, sym, ap, ◌∙◌, leb}
use Rattle.std.specs.Char.{is_whitespace}
use Rattle.std.proofs.lemmas.Bool.{eqb-true, leb-true, and_parts, or_parts, not-true, not_from_false}
use Rattle.std.proofs.lemmas.List.{drop-drop}
use Rattle.rst_markup_directives.proofs.Parts.{length-shorten_all}
use Rattle.rst_text.specs.Block.{Line, Block, first_text, is_blank, indentation, shorten, shorten_all, cut}
use Rattle.rst_text.specs.Extent.{extent}
use Rattle.rst_text.specs.Lines.{ends_white}
use Rattle.rst_text.specs.MayCut.{is_indented}
use Rattle.rst_text.proofs.Indented.{is_indented-least}
use Rattle.rst_markup_lines.specs.declared.marker.Marker.{Marker}
use Rattle.rst_markup_blocks.specs.ExplicitMarkup.{hanging_part, least_of}
use Rattle.rst_markup_blocks.specs.Lines.{lines_while}
use Rattle.rst_markup_blocks.specs.Sizes.{hanging_size, item_size, least_below}
use Rattle.rst_markup_blocks.specs.declared.lines.LineTest.TheVariants.{Blank}
use Rattle.rst_markup_blocks.specs.declared.part.Part.{Part}
use Rattle.rst_markup_blocks.proofs.PartLemmas.{hanging_is}
use Rattle.rst_block_state.specs.looks.BudgetLaws.{is_trimmed, IsFronted}
use Rattle.rst_block_state.specs.Texts.{lines_in}
use Rattle.rst_block_state.specs.Within.{hanging, indented_part, item_part}
use Rattle.rst_block_state.proofs.MarkFacts.{Tells}

-- ---- white ends

white_drop : (n : ℕ) (t : List ℕ) → ends_white t ≡ false → ends_white (drop n t) ≡ false
white_drop zero t h = h
white_drop (suc n) [] h = h
white_drop (suc n) (c ∷ cs) h = white_drop n cs (or_parts (is_whitespace c && is_blank cs) (ends_white cs) h).1

-- a text without some of the spaces that it begins with
stays : (r : ℕ) (t : List ℕ) → ends_white t ≡ false → is_blank t ≡ false → r ≤ indentation t → is_blank (drop r t) ≡ false
stays zero t w some h = some
stays (suc r) [] w some h = absurd (omega (arith, h))
stays (suc r) (c ∷ []) w some h = absurd (by (c == 32) refl w h)
  where
    by : (b : Bool) → (c == 32) ≡ b → ((is_whitespace c && true) || false) ≡ false → suc r ≤ cond b (suc 0) 0 → ⊥
    by true e w h = let is : c ≡ 32 = eqb-true c 32 e in let no : ((is_whitespace 32 && true) || false) ≡ false = sym (ap (λ x. (is_whitespace x && true) || false) is) ∙ w in cc
    by false e w h = omega (arith, h)
stays (suc r) (c ∷ d ∷ ds) w some h = stays r (d ∷ ds) (or_parts (is_whitespace c && false) (ends_white (d ∷ ds)) w).1 refl (by (c == 32) h)
  where
    by : (b : Bool) → suc r ≤ cond b (suc (indentation (d ∷ ds))) 0 → r ≤ indentation (d ∷ ds)
    by true h = omega (arith, h)
    by false h = absurd (omega (arith, h))

pub trimmed_drop : (n : ℕ) (B : Block) → is_trimmed B ≡ true → is_trimmed (drop n B) ≡ true
trimmed_drop zero B h = h
trimmed_drop (suc n) [] h = refl
trimmed_drop (suc n) (l ∷ ls) h = trimmed_drop n ls (and_parts (not (ends_white l.text)) (is_trimmed ls) h).1

pub trimmed_take : (n : ℕ) (B : Block) → is_trimmed B ≡ true → is_trimmed (take n B) ≡ true
trimmed_take zero B h = refl
trimmed_take (suc n) [] h = refl
trimmed_take (suc n) (l ∷ ls) h = let t = and_parts (not (ends_white l.text)) (is_trimmed ls) h in rw (t.0, trimmed_take n ls t.1) refl

shorter : (r : ℕ) (l : Line) → not (ends_white l.text) ≡ true → not (ends_white (drop r l.text)) ≡ true
shorter r l h = not_from_false (ends_white (drop r l.text)) (white_drop r l.text (not-true (ends_white l.text) h))

pub trimmed_shorten : (r : ℕ) (B : Block) → is_trimmed B ≡ true → is_trimmed (map (shorten r) B) ≡ true
trimmed_shorten r [] h = refl
trimmed_shorten r (l ∷ ls) h = let t = and_parts (not (ends_white l.text)) (is_trimmed ls) h in rw (shorter r l t.0, trimmed_shorten r ls t.1) refl

trimmed_all : (f r : ℕ) (B : Block) → is_trimmed B ≡ true → is_trimmed (shorten_all f r B) ≡ true
trimmed_all f r [] h = refl
trimmed_all f r (l ∷ ls) h = let t = and_parts (not (ends_white l.text)) (is_trimmed ls) h in rw (shorter f l t.0, trimmed_shorten r ls t.1) refl

trimmed_in : (B : Block) (p : Part) → is_trimmed B ≡ true → is_trimmed (lines_in B p) ≡ true
trimmed_in B p h = trimmed_all p.first_cut p.rest_cut (take (p.to - p.from) (drop p.from B)) (trimmed_take (p.to - p.from) (drop p.from B) (trimmed_drop p.from B h))

first_trimmed : (B : Block) → is_trimmed B ≡ true → ends_white (first_text B) ≡ false
first_trimmed [] h = refl
first_trimmed (l ∷ ls) h = not-true (ends_white l.text) (and_parts (not (ends_white l.text)) (is_trimmed ls) h).0

-- ---- lines of a part

pub take_le : (n : ℕ) (B : Block) → (length (take n B) ≤ n) × (length (take n B) ≤ length B)
take_le n B = (omega (arith, length-take n B), omega (arith, length-take n B))

-- a part has no more lines than there are between its places, and than there are from its begin on
pub part_le : (B : Block) (p : Part) → (length (lines_in B p) ≤ p.to - p.from) × (length (lines_in B p) ≤ length B - p.from)
part_le B p =
    let X : Block = drop p.from B in
    let t = take_le (p.to - p.from) X in
    (omega (arith, length-shorten_all p.first_cut p.rest_cut (take (p.to - p.from) X), t.0), omega (arith, length-shorten_all p.first_cut p.rest_cut (take (p.to - p.from) X), t.1, length-drop p.from B))

first_shortened : (f r n : ℕ) (X : Block) → 1 ≤ length (shorten_all f r (take n X)) → first_text (shorten_all f r (take n X)) ≡ drop f (first_text X)
first_shortened f r zero X h = absurd (omega (arith, h))
first_shortened f r (suc n) [] h = absurd (omega (arith, h))
first_shortened f r (suc n) (l ∷ ls) h = refl

-- a part whose first line isn't blank without what it loses
pub part_fronted : (B : Block) (p : Part) → is_trimmed B ≡ true → (p.from < p.to → p.from < length B → is_blank (drop p.first_cut (first_text (drop p.from B))) ≡ false) → IsFronted (lines_in B p)
part_fronted B p h some = record {
  trimmed = trimmed_in B p h;
  first_not_blank = λ there.
      let few = part_le B p in
      ap is_blank (first_shortened p.first_cut p.rest_cut (p.to - p.from) (drop p.from B) there) ∙ some (omega (arith, there, few.0)) (omega (arith, there, few.1));
}

-- ---- indented blocks

indented_at : (r k n : ℕ) (Y : Block) → is_indented r (take n Y) ≡ true → k < n → is_blank (first_text (drop k Y)) ≡ false → r ≤ indentation (first_text (drop k Y))
indented_at r k zero Y h less some = absurd (omega (arith, less))
indented_at r k (suc n) [] h less some = absurd (let no : true ≡ false = sym (ap (λ (X : Block). is_blank (first_text X)) (empty k)) ∙ some in cc)
  where
    empty : (k : ℕ) → drop {A = Line} k [] ≡ []
    empty zero = refl
    empty (suc k) = refl
indented_at r zero (suc n) (l ∷ ls) h less some =
    let t = and_parts (is_blank l.text || leb r (indentation l.text)) (is_indented r (take n ls)) h in
    leb-true r (indentation l.text) (by (is_blank l.text) some t.0)
  where
    by : (b : Bool) → b ≡ false → (b || leb r (indentation l.text)) ≡ true → leb r (indentation l.text) ≡ true
    by true e h = cc
    by false e h = h
indented_at r (suc k) (suc n) (l ∷ ls) h less some = indented_at r k n ls (and_parts (is_blank l.text || leb r (indentation l.text)) (is_indented r (take n ls)) h).1 (omega (arith, less)) some

-- a line of an indented block without the least indentation
without_least : (k : ℕ) (Y : Block) → is_trimmed Y ≡ true → k < extent 1 Y → is_blank (first_text (drop k Y)) ≡ false → is_blank (drop (least_of Y) (first_text (drop k Y))) ≡ false
without_least k Y h less some =
    stays (least_of Y) (first_text (drop k Y)) (first_trimmed (drop k Y) (trimmed_drop k Y h)) some
    (indented_at (least_of Y) k (extent 1 Y) Y (is_indented-least (take (extent 1 Y) Y)) less some)

-- an indented block that begins with a line that isn't blank
pub indented_fronted : (B Y : Block) (i : ℕ) → is_trimmed B ≡ true → drop i B ≡ Y → is_blank (first_text Y) ≡ false → IsFronted (lines_in B (indented_part i Y))
indented_fronted B Y i h e some =
    part_fronted B (indented_part i Y) h (λ less there.
    let t : is_trimmed Y ≡ true = ap is_trimmed (sym e) ∙ trimmed_drop i B h in
    ap (λ (X : Block). is_blank (drop (least_of Y) (first_text X))) e ∙ without_least 0 Y t (omega (arith, less)) some)

-- after the blank lines comes one that isn't
pub past_blanks : (Y : Block) → lines_while Blank Y < length Y → is_blank (first_text (drop (lines_while Blank Y) Y)) ≡ false
unfolding lines_while
past_blanks [] h = absurd (omega (arith, h))
past_blanks (l ∷ ls) h = by (is_blank l.text) refl h (past_blanks ls)
  where
    by : (b : Bool) → is_blank l.text ≡ b → cond b (suc (lines_while Blank ls)) 0 < suc (length ls)
        → (lines_while Blank ls < length ls → is_blank (first_text (drop (lines_while Blank ls) ls)) ≡ false)
        → is_blank (first_text (drop (cond b (suc (lines_while Blank ls)) 0) (l ∷ ls))) ≡ false
    by true e h others = others (omega (arith, h))
    by false e h others = e

pub blanks_fronted : (Y : Block) → is_trimmed Y ≡ true → IsFronted (drop (lines_while Blank Y) Y)
blanks_fronted Y h = record {
  trimmed = trimmed_drop (lines_while Blank Y) Y h;
  first_not_blank = λ some. past_blanks Y (omega (arith, some, length-drop (lines_while Blank Y) Y));
}

pub take_fronted : (k : ℕ) (Q : Block) → IsFronted Q → IsFronted (take k Q)
take_fronted k Q h = record { trimmed = trimmed_take k Q h.trimmed; first_not_blank = by k Q h.first_not_blank }
  where
    by : (k : ℕ) (Q : Block) → (1 ≤ length Q → is_blank (first_text Q) ≡ false) → 1 ≤ length (take k Q) → is_blank (first_text (take k Q)) ≡ false
    by zero Q f some = absurd (omega (arith, some))
    by (suc k) [] f some = absurd (omega (arith, some))
    by (suc k) (l ∷ ls) f some = f (omega arith)

-- ---- hanging blocks

below : (i : ℕ) (B : Block) → drop 1 (drop i B) ≡ drop (i + 1) B
below i B = drop-drop 1 i B

-- a hanging block whose marker shows whether anything comes after it
pub hanging_fronted : (B : Block) (i cut : ℕ) (bare : Bool) → is_trimmed B ≡ true → bare ≡ is_blank (drop cut (first_text (drop i B))) → IsFronted (lines_in B (hanging_part i cut bare (drop i B)))
unfolding hanging_part
hanging_fronted B i n false h tells = part_fronted B (hanging_part i n false (drop i B)) h (λ less there. sym tells)
hanging_fronted B i n true h tells =
    let Y : Block = drop 1 (drop i B) in
    let b : ℕ = lines_while Blank Y in
    let k : ℕ = min b (extent 1 Y) in
    part_fronted B (hanging_part i n true (drop i B)) h (λ less there.
    let short : b < extent 1 Y = omega (arith, less, hanging_is (drop i B)) in
    let same : k ≡ b = omega (arith, short) in
    let place : drop (i + 1 + k) B ≡ drop b Y = ap (λ j. drop (i + 1 + j) B) same ∙ sym (drop-drop b (i + 1) B) ∙ ap (drop b) (sym (below i B)) in
    let text : is_blank (first_text (drop b Y)) ≡ false = past_blanks Y (omega (arith, there, same, length-drop 1 (drop i B), length-drop i B)) in
    let trimmed : is_trimmed Y ≡ true = trimmed_drop 1 (drop i B) (trimmed_drop i B h) in
    ap (λ (X : Block). is_blank (drop (least_of Y) (first_text X))) place ∙ without_least b Y trimmed short text)

pub hanging_from : (i cut : ℕ) (bare : Bool) (X : Block) → (i ≤ (hanging_part i cut bare X).from) × ((hanging_part i cut bare X).to ≡ i + hanging_size X)
unfolding hanging_part
hanging_from i cut true X = (omega arith, refl)
hanging_from i cut false X = (omega arith, refl)

pub hanging_le : (B X : Block) (i cut : ℕ) (bare : Bool) → length (lines_in B (hanging_part i cut bare X)) ≤ hanging_size X
hanging_le B X i cut bare = let h = hanging_from i cut bare X in omega (arith, (part_le B (hanging_part i cut bare X)).0, h.0, h.1)

-- ---- items

pub item_fronted : (B : Block) (i : ℕ) (m : Marker) → is_trimmed B ≡ true → Tells (first_text (drop i B)) m → IsFronted (lines_in B (item_part i m (drop i B)))
item_fronted B i m h tells = by m.bare refl
  where
    X : Block
    X = drop i B

    by : (b : Bool) → m.bare ≡ b → let p : Part = record { from = i; to = i + item_size m X; first_cut = m.cut; rest_cut = m.cut } in IsFronted (lines_in B (cond b (hanging i m X) p))
    by true e = hanging_fronted B i m.cut m.bare h tells
    by false e = part_fronted B (record { from = i; to = i + item_size m X; first_cut = m.cut; rest_cut = m.cut }) h (λ less there. sym tells ∙ e)

pub item_le : (B X : Block) (i : ℕ) (m : Marker) → length (lines_in B (item_part i m X)) ≤ item_size m X
unfolding least_below
item_le B X i m = by m.bare refl
  where
    by : (b : Bool) → m.bare ≡ b → let p : Part = record { from = i; to = i + suc (extent (cond b 1 m.cut) (drop 1 X)); first_cut = m.cut; rest_cut = m.cut } in length (lines_in B (cond b (hanging i m X) p)) ≤ suc (extent (cond b 1 m.cut) (drop 1 X))
    by true e = omega (arith, hanging_le B X i m.cut m.bare, hanging_is X)
    by false e = omega (arith, (part_le B (record { from = i; to = i + suc (extent m.cut (drop 1 X)); first_cut = m.cut; rest_cut = m.cut })).0)
