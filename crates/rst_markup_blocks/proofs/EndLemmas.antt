-- Where literal blocks and paragraphs end, and what is looked at for that.
use Rattle.std.proofs.Common.{Option, ◌-◌, ◌≡◌, ℕ, ◌+◌, ◌*◌, ◌<◌, ◌≤◌, ◌⊎◌, inl, inr, true, false, None, Some, List, ◌∷◌, drop, refl, sym, ap, ◌∙◌, arith}
use Rattle.std.proofs.lemmas.Bool.{lt-ltb}
use Rattle.rst_text.specs.Block.{Block, first_text}
use Rattle.rst_text.specs.Extent.{extent}
use Rattle.rst_text.specs.Reach.{reach, through_text, looked}
use Rattle.rst_text.proofs.Reaches.{looked_is}
use Rattle.rst_markup_lines.specs.TextStart.{first}
use Rattle.rst_markup_lines.specs.Adornment.{is_punctuation}
use Rattle.rst_markup_blocks.specs.declared.lines.LineTest.TheVariants.{Blank, Begins, Plain}
use Rattle.rst_markup_blocks.specs.Lines.{lines_while}
use Rattle.rst_markup_blocks.specs.Sizes.{literal_size, quoted_size, paragraph_size, paragraph_len, run_size, text_size, hanging_size, overline_looks, bullet_size, enumerator_size, item_size}
use Rattle.rst_markup_lines.specs.Marker.{bullet}
use Rattle.rst_markup_lines.specs.Enumerator.{enumerator_of}
use Rattle.rst_markup_lines.specs.declared.marker.Marker.{Marker}
use Rattle.rst_markup_lines.specs.declared.enumerator.Enumerator.{Enumerator}
use Rattle.rst_markup_blocks.specs.declared.form.TextForm.{TextForm}
use Rattle.rst_markup_blocks.specs.Forms.{text_form}
use Rattle.rst_markup_blocks.specs.Conditions.{next_text}
use Rattle.rst_markup_blocks.specs.declared.form.TextForm.TheVariants.{Paragraph, ShortUnderline, Definition}
use Rattle.rst_markup_lines.specs.Closing.{ends_in_colons}
use Rattle.rst_markup_lines.specs.TextStart.{begins_with}
use Rattle.rst_markup_blocks.proofs.LineLemmas.{blanks_through, filled_through, begins_while, reach_after}
use Rattle.rst_markup_blocks.specs.Sizes.{form_size, quoted_len}

-- an indented literal block
pub literal_indented : (Y : Block) → 0 < extent 1 Y → literal_size Y ≡ extent 1 Y
unfolding literal_size
literal_indented Y h = rw (lt-ltb 0 (extent 1 Y) h) refl

pub literal_other : (Y : Block) → extent 1 Y ≡ 0 → literal_size Y ≡ quoted_size (lines_while Blank Y) Y
unfolding literal_size
literal_other Y h = rw h refl

pub quoted_is : (b : ℕ) (o : Option ℕ) (Y : Block) → first (first_text (drop b Y)) ≡ o → quoted_size b Y ≡ quoted_len o b Y
unfolding quoted_size
quoted_is b o Y e = rw e refl

-- what is looked at for an indented one
pub looked_indented : (Y : Block) → 0 < extent 1 Y → looked 1 Y ≡ reach (literal_size Y) Y
looked_indented Y h = looked_is 1 Y ∙ ap (λ n. reach n Y) (sym (literal_indented Y h))

-- where there is none, for which blank lines and the line after them were looked at
pub looked_none : (Y : Block) → extent 1 Y ≡ 0 → looked 1 Y ≡ through_text Y
looked_none Y h = looked_is 1 Y ∙ ap (λ n. reach n Y) h ∙ (let z : 0 + through_text Y ≡ through_text Y = omega arith in z)

pub reach_none : (Y : Block) → literal_size Y ≡ 0 → reach (literal_size Y) Y ≡ through_text Y
reach_none Y h = ap (λ n. reach n Y) h ∙ (let z : 0 + through_text Y ≡ through_text Y = omega arith in z)

-- a quoted one
pub looked_quoted : (c : ℕ) (Y : Block) → extent 1 Y ≡ 0 → first (first_text (drop (lines_while Blank Y) Y)) ≡ Some c → is_punctuation c ≡ true
    → (a b d : ℕ) → a ≤ through_text Y → b ≤ 1 → d ≤ reach (lines_while (Begins c) (drop (lines_while Blank Y) Y)) (drop (lines_while Blank Y) Y)
    → looked 1 Y + a + b + d ≤ 4 * reach (literal_size Y) Y
looked_quoted c Y none e p a b d ha hb hd =
    let Z : Block = drop (lines_while Blank Y) Y in
    let size : literal_size Y ≡ lines_while Blank Y + lines_while (Begins c) Z = literal_other Y none ∙ quoted_is (lines_while Blank Y) (Some c) Y e ∙ rw p refl in
    let whole : reach (literal_size Y) Y ≡ lines_while Blank Y + reach (lines_while (Begins c) Z) Z = ap (λ n. reach n Y) size ∙ reach_after (lines_while Blank Y) (lines_while (Begins c) Z) Y in
    omega (arith, whole, looked_none Y none, blanks_through Y, filled_through Z c e, begins_while Z c e)

-- Paragraphs.
pub paragraph_more : (X : Block) → ends_in_colons (first_text (drop (run_size Plain X - 1) X)) ≡ true → paragraph_size X ≡ run_size Plain X + literal_size (drop (run_size Plain X) X)
unfolding paragraph_size paragraph_len
paragraph_more X h = rw h refl

pub paragraph_only : (X : Block) → ends_in_colons (first_text (drop (run_size Plain X - 1) X)) ≡ false → paragraph_size X ≡ run_size Plain X
unfolding paragraph_size paragraph_len
paragraph_only X h = rw h (omega arith)

pub paragraph_len_is : (X : Block) → paragraph_len X ≡ run_size Plain X
unfolding paragraph_len
paragraph_len_is X = refl

pub run_size_some : (X : Block) → 1 ≤ run_size Plain X
unfolding run_size
run_size_some X = omega arith

pub reach_more : (n : ℕ) (X : Block) → paragraph_size X ≡ n + literal_size (drop n X) → reach (paragraph_size X) X ≡ n + reach (literal_size (drop n X)) (drop n X)
reach_more n X e = ap (λ k. reach k X) e ∙ reach_after n (literal_size (drop n X)) X

-- What a text begins.
pub size_by : (X : Block) (f : TextForm) → text_form (first_text X) (next_text X) ≡ f → text_size X ≡ form_size f X
unfolding text_size
size_by X f e = rw e refl

pub size_definition : (X : Block) → text_form (first_text X) (next_text X) ≡ Definition → text_size X ≡ hanging_size X
size_definition X e = size_by X Definition e

spaced : (t next : List ℕ) → begins_with 32 next ≡ true → text_form t next ≡ Definition
unfolding text_form
spaced t next e = rw e refl

-- a paragraph whose next line isn't blank has that line
pub next_plain : (X : Block) (t : List ℕ) → (text_form t (next_text X) ≡ Definition → ⊥) → overline_looks (next_text X) < run_size Plain X
unfolding run_size lines_while
next_plain (l ∷ m ∷ ms) t isnt = grind (arith, spaced t m.text, isnt)
next_plain _ t isnt = omega arith

pub hanging_some : (X : Block) → 1 ≤ hanging_size X
unfolding hanging_size
hanging_some X = omega arith

pub size_text : (X : Block) → (text_form (first_text X) (next_text X) ≡ Paragraph) ⊎ (text_form (first_text X) (next_text X) ≡ ShortUnderline) → text_size X ≡ paragraph_size X
size_text X (inl e) = size_by X Paragraph e
size_text X (inr e) = size_by X ShortUnderline e

pub text_isnt_definition : (f : TextForm) → (f ≡ Paragraph) ⊎ (f ≡ ShortUnderline) → f ≡ Definition → ⊥
text_isnt_definition f (inl e) d = cc
text_isnt_definition f (inr e) d = cc

-- Items.
pub bullet_is : (X : Block) (m : Marker) → bullet (first_text X) ≡ Some m → bullet_size X ≡ item_size m X
unfolding bullet_size
bullet_is X m e = rw e refl

pub enumerator_is : (X : Block) (e : Enumerator) → enumerator_of (first_text X) ≡ Some e → enumerator_size X ≡ item_size e.marker X
unfolding enumerator_size
enumerator_is X e h = rw h refl

pub enumerator_none : (X : Block) → enumerator_of (first_text X) ≡ None → enumerator_size X ≡ 1
unfolding enumerator_size
enumerator_none X h = rw h refl
