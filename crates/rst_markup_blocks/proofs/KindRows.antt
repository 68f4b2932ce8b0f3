-- The kind of a line, row by row.
use Rattle.std.proofs.Common.{◌≡◌, ℕ, true, false, List, [], ◌∷◌, None, true≢false, refl, sym, subst, ◌∙◌, arith}
use Rattle.std.specs.Prelude.{if◌then◌else◌, is_some}
use Rattle.std.specs.Char.{is_ascii_alphabetic}
use Rattle.std.specs.List.{list_all}
use Rattle.std.proofs.lemmas.Bool.Decides.{nat_tests}
use Rattle.rst_markup_lines.proofs.EnumeratorLemmas.{letter_not}
use Rattle.rst_settings.specs.declared.Parts.{Parts}
use Rattle.rst_text.specs.Block.{Block, first_parts, first_text, is_blank}
use Rattle.rst_markup_lines.specs.TextStart.{begins_by, begins_with, first}
use Rattle.rst_markup_lines.specs.OptionMarker.{option_at, options_from}
use Rattle.rst_markup_lines.specs.Marker.{bullet, bullet_by, doctest, line_bar}
use Rattle.rst_markup_lines.specs.Enumerator.{enumerator_of}
use Rattle.rst_markup_lines.specs.Field.{field_of}
use Rattle.rst_markup_lines.specs.Border.{is_grid_border, is_simple_border}
use Rattle.rst_markup_lines.specs.ExplicitMarks.{dots, underscores}
use Rattle.rst_markup_lines.specs.Adornment.{is_punctuation, adornment_of}
use Rattle.rst_markup_lines.specs.Class.{is_in}
use Rattle.rst_markup_lines.specs.declared.class.Class.TheVariants.{Either}
use Rattle.rst_markup_blocks.specs.Conditions.{next_text, after_text, item_enumerator, item_option}
use Rattle.rst_markup_blocks.specs.Kinds.{later_kinds, first_kind, kind_at}
use Rattle.rst_markup_blocks.specs.Begun.{kind_in, IsMarked, IsBegun}
use Rattle.rst_markup_blocks.specs.declared.begun.Begun.{Begun}
use Rattle.rst_markup_blocks.specs.declared.begun.Begun.TheVariants as begun
use Rattle.rst_markup_blocks.specs.declared.kind.Kind.{Kind}
use Rattle.rst_markup_blocks.specs.declared.kind.Kind.TheVariants.{Blank, Quote, Bullet, Enumerator, Field, OptionItem, Doctest, Line, Grid, Simple, Explicit, Anonymous, Adornment, Text}
use Rattle.std.proofs.lemmas.Bool.{and_right}

-- by the first rows of the table, and this kind where none of them holds
abbrev pub kind_by : Parts → List ℕ → List ℕ → List ℕ → Kind → Kind
kind_by parts t next after later =
    if is_blank t then Blank
    else if begins_with 32 t then Quote
    else if is_some (bullet t) then Bullet
    else if is_some (item_enumerator t next) then Enumerator
    else if is_some (field_of parts t) then Field
    else if is_some (item_option t next after) then OptionItem
    else later

-- the kind of a block's first line, by the first rows of the table and those from the doctest block on
pub kind_at_is : (X : Block) (parts : Parts) (t next after : List ℕ) → first_parts X ≡ parts → first_text X ≡ t → next_text X ≡ next → after_text X ≡ after → kind_at X ≡ kind_by parts t next after (first_kind later_kinds X)
unfolding kind_at first_kind
kind_at_is X parts t next after p a b d = rw (sym p, sym a, sym b, sym d) refl

pub later_kind_is : (X : Block) (t : List ℕ) → first_text X ≡ t → first_kind later_kinds X ≡ (
    if is_some (doctest t) then Doctest
    else if is_some (line_bar t) then Line
    else if is_grid_border t then Grid
    else if is_simple_border t then Simple
    else if is_some (dots t) then Explicit
    else if is_some (underscores t) then Anonymous
    else if is_some (adornment_of t) then Adornment
    else Text)
unfolding first_kind
later_kind_is X t a = rw (sym a) refl

-- what begins at a line before the next two begins at the front of a block that has these
pub begun_of : (X : Block) (parts : Parts) (t next after : List ℕ) (begun : Begun) → first_parts X ≡ parts → first_text X ≡ t → next_text X ≡ next → after_text X ≡ after
    → kind_in begun ≡ kind_at X → IsMarked parts t next after begun → IsBegun X begun
begun_of X parts t next after begun p a b d kind mark = record {
  kind = kind;
  mark = subst (λ u. IsMarked u (first_text X) (next_text X) (after_text X) begun) (sym p) (subst (λ u. IsMarked parts u (next_text X) (after_text X) begun) (sym a)
      (subst (λ u. IsMarked parts t u (after_text X) begun) (sym b) (subst (λ u. IsMarked parts t next u begun) (sym d) mark)));
}

-- a blank line is blank, whatever is below it
pub blank_at : (X : Block) (t : List ℕ) → first_text X ≡ t → is_blank t ≡ true → IsBegun X begun.Blank
blank_at X [] e h = record { kind = sym (kind_at_is X (first_parts X) [] (next_text X) (after_text X) refl e refl refl); mark = tt }
blank_at X (c ∷ cs) e h = absurd (true≢false (sym h))

pub bullet_is : (t : List ℕ) → bullet t ≡ bullet_by (first t) t
unfolding bullet
bullet_is t = refl

-- ---- a text that begins with a letter

-- a letter is none of the characters that the other rows begin with
no-punctuation : (c : ℕ) → is_ascii_alphabetic c ≡ true → is_punctuation c ≡ false
no-punctuation c h = grind (arith, nat_tests)

-- it begins with no mark
no-marks : (parts : Parts) (c : ℕ) (cs next after : List ℕ) → is_ascii_alphabetic c ≡ true → (bullet (c ∷ cs) ≡ None) × (field_of parts (c ∷ cs) ≡ None) × (item_option (c ∷ cs) next after ≡ None) × (doctest (c ∷ cs) ≡ None)
    × (line_bar (c ∷ cs) ≡ None) × (is_grid_border (c ∷ cs) ≡ false) × (is_simple_border (c ∷ cs) ≡ false) × (dots (c ∷ cs) ≡ None) × (underscores (c ∷ cs) ≡ None) × (adornment_of (c ∷ cs) ≡ None)
unfolding bullet field_of item_option options_from option_at doctest line_bar is_grid_border is_simple_border dots underscores adornment_of
no-marks parts c cs next after h = (
  rw (letter_not c 42 h refl, letter_not c 43 h refl, letter_not c 45 h refl, letter_not c 0x2022 h refl, letter_not c 0x2023 h refl, letter_not c 0x2043 h refl) refl,
  rw (letter_not c 58 h refl) refl,
  rw (letter_not c 47 h refl, letter_not c 45 h refl, letter_not c 43 h refl) refl,
  rw (letter_not c 62 h refl) refl,
  rw (letter_not c 124 h refl) refl,
  rw (letter_not c 43 h refl, and_right (list_all (is_in (Either 45 43)) (c ∷ cs)) false refl) (and_right _ _ refl),
  rw (letter_not c 61 h refl) (and_right _ _ refl),
  rw (letter_not c 46 h refl) refl,
  rw (letter_not c 95 h refl) refl,
  rw (no-punctuation c h) refl,
)

no-item : (t next : List ℕ) → enumerator_of t ≡ None → item_enumerator t next ≡ None
unfolding item_enumerator
no-item t next none = rw none refl

-- then what begins with no enumerator is a text
pub letter_kind : (X : Block) (t : List ℕ) → begins_by is_ascii_alphabetic t ≡ true → enumerator_of t ≡ None → first_text X ≡ t → kind_at X ≡ Text
letter_kind X [] h none a = absurd (true≢false (sym h))
letter_kind X (c ∷ cs) h none a =
    let next = next_text X in
    let after = after_text X in
    let marks = no-marks (first_parts X) c cs next after h in
    kind_at_is X (first_parts X) (c ∷ cs) next after refl a refl refl
    ∙ rw (no-item (c ∷ cs) next none, later_kind_is X (c ∷ cs) a, letter_not c 32 h refl, marks.0, marks.1, marks.2, marks.3, marks.4, marks.5, marks.6, marks.7, marks.8, marks.9) refl
