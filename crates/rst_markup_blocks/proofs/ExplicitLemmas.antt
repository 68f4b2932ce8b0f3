-- Explicit markup: its parts are in its block, and its size gives its end.
use Rattle.std.proofs.Common.{[], ◌∷◌, ◌≡◌, ℕ, ◌+◌, ◌-◌, ◌^◌, ◌<◌, ◌≤◌, Bool, true, false, cond, List, min, length, take, drop, length-drop, Option, None, Some, arith, refl, ap, ◌∙◌}
use Rattle.std.specs.Prelude.{if◌then◌else◌, option_map}
use Rattle.std.specs.Option.{option_and_then}
use Rattle.rst_text.specs.Block.{Block, first_text, is_blank}
use Rattle.rst_text.specs.Extent.{extent}
use Rattle.rst_text.specs.MayCut.{is_indented}
use Rattle.rst_text.proofs.Indented.{is_indented-least, is_indented-part, is_indented-zero}
use Rattle.rst_markup_lines.specs.ExplicitMarks.{dots, underscores, label_of, target_of, substitution_of, directive_mark_of}
use Rattle.rst_markup_lines.specs.declared.explicit_marks.DirectiveMark.{DirectiveMark}
use Rattle.rst_markup_lines.specs.declared.explicit_marks.LabelKind.{LabelKind}
use Rattle.rst_markup_lines.specs.declared.explicit_marks.LabelKind.TheVariants.{Footnote as FootnoteLabel, Citation as CitationLabel}
use Rattle.rst_markup_lines.specs.declared.explicit_marks.LabelMark.{LabelMark}
use Rattle.rst_markup_lines.specs.declared.explicit_marks.SubstitutionMark.{SubstitutionMark}
use Rattle.rst_markup_lines.specs.declared.explicit_marks.SubstitutionMark.TheVariants.{Named as NamedSubstitution}
use Rattle.rst_markup_lines.specs.declared.explicit_marks.TargetMark.{TargetMark}
use Rattle.rst_markup_lines.specs.declared.explicit_marks.TargetMark.TheVariants.{Named, Anonymous as AnonymousMark}
use Rattle.rst_markup_lines.specs.declared.marker.Marker.{Marker}
use Rattle.rst_markup_lines.specs.declared.place.Characters.{Characters}
use Rattle.rst_markup_lines.specs.Place.{place_of}
use Rattle.rst_markup_blocks.specs.Explicit.{target_part, call_of, call_by, embedded_directive, label_with, substitution_with, explicit_by, dots_alone, after_dots, cut_of, anonymous_of, explicit_with, explicit_of, explicit_size, explicit_end, IsEmbedded, IsExplicitIn, IsTargetShort}
use Rattle.rst_markup_blocks.specs.ExplicitMarkup.{explicit_form, first_form, substitution_form, comment_cause, hanging_part, least_of}
use Rattle.rst_markup_blocks.specs.Conditions.{next_text}
use Rattle.rst_markup_blocks.specs.Lines.{lines_while}
use Rattle.rst_markup_blocks.specs.Parts.{IsBlock, IsPlace, IsCall}
use Rattle.rst_markup_blocks.proofs.RowLaws.{below_le, while_le}
use Rattle.rst_markup_blocks.specs.Sizes.{hanging_size, indented_size, run_size}
use Rattle.rst_markup_blocks.specs.declared.explicit_markup.ExplicitForm.{ExplicitForm}
use Rattle.rst_markup_blocks.specs.declared.explicit_markup.ExplicitForm.TheVariants.{Label, Target as TargetForm, Substitution as SubstitutionForm, Directive as DirectiveForm, Comment as CommentForm}
use Rattle.rst_markup_blocks.specs.declared.forms.CommentCause.TheVariants.{Plain}
use Rattle.rst_markup_blocks.specs.declared.forms.Explicit.{Explicit}
use Rattle.rst_markup_blocks.specs.declared.forms.Explicit.TheVariants.{Comment, EmptyComment, Substitution, Anonymous}
use Rattle.rst_markup_blocks.specs.declared.forms.Invocation.{Invocation}
use Rattle.rst_markup_blocks.specs.declared.lines.LineTest.TheVariants.{Blank, Indented}
use Rattle.rst_markup_blocks.specs.declared.part.Part.{Part}
use Rattle.rst_text.proofs.Ends.{drop_one}
use Rattle.rst_markup_blocks.proofs.LineLemmas.{drop_far}
use Rattle.rst_markup_blocks.proofs.PartLemmas.{hanging_is}
use Rattle.rst_markup_lines.proofs.MarkBounds.{TargetWithin, dots_within, label_within, target_within, substitution_within, directive_within}
use Rattle.std.proofs.lemmas.Bool.{cond_both}

-- ---- the marks of a form are within the text
abbrev pub FormWithin : List ℕ → ExplicitForm → Type 0
FormWithin t (Label l) = (1 + l.len ≤ length t) × (l.marker.cut ≤ length t)
FormWithin t (TargetForm mark) = TargetWithin t mark
FormWithin t (SubstitutionForm len m) = (1 + len ≤ length t) × (m.cut ≤ length t)
FormWithin t (DirectiveForm d) = (d.len ≤ length t) × (d.marker.cut ≤ length t)
FormWithin t (CommentForm cause) = Unit {0}

pub form_within : (t : List ℕ) → FormWithin t (explicit_form t)
unfolding explicit_form
form_within t = by (label_of t) (target_of t) (substitution_of t) (directive_mark_of true t) refl refl refl refl
  where
    by : (l : Option LabelMark) (m : Option TargetMark) (s : Option SubstitutionMark) (d : Option DirectiveMark) → label_of t ≡ l → target_of t ≡ m → substitution_of t ≡ s → directive_mark_of true t ≡ d
        → FormWithin t (first_form (option_map (λ l. Label l) l ∷ option_map (λ m. TargetForm m) m ∷ option_and_then substitution_form s ∷ option_map (λ d. DirectiveForm d) d ∷ []) (CommentForm (comment_cause t)))
    by (Some l) m s d is other more last = label_within t l is
    by None (Some m) s d is other more last = target_within t m other
    by None None (Some (NamedSubstitution n x)) d is other more last = substitution_within t n x more
    by None None _ (Some d) is other more last = directive_within true t d last
    by None None _ None is other more last = tt

pub form_within_at : (t : List ℕ) (f : ExplicitForm) → f ≡ explicit_form t → FormWithin t f
form_within_at t f e = rw e (form_within t)

-- ---- extents are parts of the block
pub hanging_le : (B : Block) (i : ℕ) → i < length B → i + hanging_size (drop i B) ≤ length B
unfolding hanging_size
hanging_le B i h = omega (arith, below_le 1 (drop i B) (omega (arith, length-drop i B)), length-drop i B)

pub indented_le : (B : Block) (i : ℕ) → i < length B → i + indented_size (drop i B) ≤ length B
unfolding indented_size run_size
indented_le B i h = omega (arith, while_le Indented (drop 1 (drop i B)), length-drop 1 (drop i B), length-drop i B)

-- the lines of a hanging block below its first, for the cut that they get
below_indented : (i : ℕ) (B : Block) → is_indented (least_of (drop 1 (drop i B))) (take (extent 1 (drop 1 (drop i B))) (drop (i + 1) B)) ≡ true
below_indented i B =
    rw (drop_one i B) (is_indented-least (take (extent 1 (drop 1 (drop i B))) (drop 1 (drop i B))))

text_block : (B : Block) (i cut : ℕ) → i < length B → IsBlock B (hanging_part i cut false (drop i B))
unfolding hanging_part
text_block B i cut h =
    let X : Block = drop i B in
    let lines : i + hanging_size X - (i + 1) ≡ extent 1 (drop 1 X) = omega (arith, hanging_is X) in
    record {
      ordered = omega arith;
      within = hanging_le B i h;
      indented = ap (λ m. is_indented (least_of (drop 1 X)) (take m (drop (i + 1) B))) lines ∙ below_indented i B;
    }

bare_block : (B : Block) (i cut : ℕ) → i < length B → IsBlock B (hanging_part i cut true (drop i B))
unfolding hanging_part
bare_block B i cut h =
    let X : Block = drop i B in
    let n : ℕ = extent 1 (drop 1 X) in
    let k : ℕ = min (lines_while Blank (drop 1 X)) n in
    let r : ℕ = least_of (drop 1 X) in
    let few : k ≤ n = omega arith in
    let lines : i + hanging_size X - (i + 1 + k + 1) ≡ n - (k + 1) = omega (arith, hanging_is X) in
    let place : i + 1 + k + 1 ≡ i + 1 + (k + 1) = omega arith in
    record {
      ordered = omega (arith, hanging_is X);
      within = hanging_le B i h;
      indented = ap (λ m. is_indented r (take m (drop (i + 1 + k + 1) B))) lines
          ∙ ap (λ j. is_indented r (take (n - (k + 1)) (drop j B))) place
          ∙ ap (λ Y. is_indented r (take (n - (k + 1)) Y)) (drop_far (i + 1) (k + 1) B)
          ∙ is_indented-part r (k + 1) n n (drop (i + 1) B) (omega arith) (below_indented i B);
    }

pub hanging_block : (B : Block) (i cut : ℕ) (bare : Bool) → i < length B → IsBlock B (hanging_part i cut bare (drop i B))
hanging_block B i cut true h = bare_block B i cut h
hanging_block B i cut false h = text_block B i cut h

target_block : (B : Block) (i n : ℕ) → i < length B → IsBlock B (target_part i n (drop i B))
target_block B i n h = record {
  ordered = omega arith;
  within = indented_le B i h;
  indented = is_indented-zero (take (i + indented_size (drop i B) - (i + 1)) (drop (i + 1) B));
}

-- ---- labels, names and directives
place_in : (t : List ℕ) (from len : ℕ) → from + len ≤ length t → IsPlace t (place_of from len)
place_in t from len h = record { ordered = omega arith; within = h }

call_in : (B : Block) (i n : ℕ) (d : DirectiveMark) → i < length B → n + d.len ≤ length (first_text (drop i B)) → IsCall B i (call_of i n d (drop i B))
call_in B i n d h s = record { inside = h; ordered = omega arith; within = s; block = hanging_block B i (n + d.marker.cut) d.marker.bare h }

embedded_by : (B : Block) (i n : ℕ) (o : Option DirectiveMark) → i < length B → n ≤ length (first_text (drop i B))
    → directive_mark_of false (drop n (first_text (drop i B))) ≡ o → IsEmbedded B i (call_by o i n (drop i B))
embedded_by B i n None h s e = tt
embedded_by B i n (Some d) h s e =
    let t : List ℕ = first_text (drop i B) in
    call_in B i n d h (omega (arith, (directive_within false (drop n t) d e).0, length-drop n t))

embedded_in : (B : Block) (i n : ℕ) → i < length B → n ≤ length (first_text (drop i B)) → IsEmbedded B i (embedded_directive i n (drop i B))
unfolding embedded_directive
embedded_in B i n h s = embedded_by B i n (directive_mark_of false (drop n (first_text (drop i B)))) h s refl

label_in : (B : Block) (i : ℕ) (k : LabelKind) (label : Characters) (body : Part) → IsPlace (first_text (drop i B)) label → IsBlock B body → IsExplicitIn B i (label_with k label body)
label_in B i FootnoteLabel label body p b = (p, b)
label_in B i CitationLabel label body p b = (p, b)

form_in : (B : Block) (i : ℕ) (m : Marker) (f : ExplicitForm) → i < length B → m.cut ≤ length (first_text (drop i B))
    → FormWithin (drop m.cut (first_text (drop i B))) f → IsExplicitIn B i (explicit_by f i m (drop i B))
form_in B i m (Label l) h s w =
    let t : List ℕ = first_text (drop i B) in
    label_in B i l.kind (place_of (m.cut + 1) l.len) (hanging_part i (m.cut + l.marker.cut) l.marker.bare (drop i B))
    (place_in t (m.cut + 1) l.len (omega (arith, w.0, length-drop m.cut t))) (hanging_block B i (m.cut + l.marker.cut) l.marker.bare h)
form_in B i m (TargetForm (Named from len x)) h s w =
    let t : List ℕ = first_text (drop i B) in
    (place_in t (m.cut + from) len (omega (arith, w.0, length-drop m.cut t)), target_block B i (m.cut + x.cut) h)
form_in B i m (TargetForm (AnonymousMark x)) h s w = target_block B i (m.cut + x.cut) h
form_in B i m (SubstitutionForm len x) h s w =
    let t : List ℕ = first_text (drop i B) in
    (place_in t (m.cut + 1) len (omega (arith, w.0, length-drop m.cut t)), embedded_in B i (m.cut + x.cut) h (omega (arith, w.1, length-drop m.cut t)))
form_in B i m (DirectiveForm d) h s w =
    let t : List ℕ = first_text (drop i B) in
    call_in B i m.cut d h (omega (arith, w.0, length-drop m.cut t))
form_in B i m (CommentForm cause) h s w = hanging_block B i m.cut false h

alone_in : (B : Block) (i : ℕ) (m : Marker) → i < length B → IsExplicitIn B i (dots_alone i m (drop i B))
alone_in B i m h = cond_both (is_blank (next_text (drop i B))) _ _ (IsExplicitIn B i) (λ _. tt) (λ _. hanging_block B i m.cut true h)

after_dots_in : (B : Block) (i : ℕ) (m : Marker) → i < length B → m.cut ≤ length (first_text (drop i B)) → IsExplicitIn B i (after_dots i m (drop i B))
unfolding after_dots
after_dots_in B i m h s =
    let t : List ℕ = drop m.cut (first_text (drop i B)) in
    cond_both m.bare _ _ (IsExplicitIn B i) (λ _. alone_in B i m h) (λ _. form_in B i m (explicit_form t) h s (form_within t))

-- the parts of explicit markup are in its block
pub explicit_in : (B : Block) (i : ℕ) → i < length B → IsExplicitIn B i (explicit_of i (drop i B))
unfolding explicit_of anonymous_of
explicit_in B i h = by (dots (first_text (drop i B))) refl
  where
    by : (o : Option Marker) → dots (first_text (drop i B)) ≡ o → IsExplicitIn B i (explicit_with o i (drop i B))
    by None e = target_block B i (cut_of (underscores (first_text (drop i B)))) h
    by (Some m) e = after_dots_in B i m h (dots_within (first_text (drop i B)) m e)

pub explicit_in_at : (B : Block) (i : ℕ) (x : Explicit) → i < length B → x ≡ explicit_of i (drop i B) → IsExplicitIn B i x
explicit_in_at B i x h e = rw e (explicit_in B i h)

-- ---- where it ends
hanging_to : (i cut : ℕ) (bare : Bool) (X : Block) → (hanging_part i cut bare X).to ≡ i + hanging_size X
unfolding hanging_part
hanging_to i cut true X = refl
hanging_to i cut false X = refl

pub label_end : (i : ℕ) (k : LabelKind) (label : Characters) (body : Part) → explicit_end i (label_with k label body) ≡ body.to
label_end i FootnoteLabel label body = refl
label_end i CitationLabel label body = refl

-- how many lines markup of a form has
abbrev pub lines_of : ExplicitForm → Block → ℕ
lines_of (TargetForm mark) X = indented_size X
lines_of form X = hanging_size X

-- for markup of a form
form_end : (i : ℕ) (m : Marker) (f : ExplicitForm) (X : Block) → explicit_end i (explicit_by f i m X) ≡ i + lines_of f X
form_end i m (Label l) X =
    let n : ℕ = m.cut + l.marker.cut in
    omega (arith, label_end i l.kind (place_of (m.cut + 1) l.len) (hanging_part i n l.marker.bare X), hanging_to i n l.marker.bare X)
form_end i m (TargetForm (Named from len x)) X = omega arith
form_end i m (TargetForm (AnonymousMark x)) X = omega arith
form_end i m (SubstitutionForm len x) X = omega arith
form_end i m (DirectiveForm d) X = omega (arith, hanging_to i (m.cut + d.marker.cut) d.marker.bare X)
form_end i m (CommentForm cause) X = omega (arith, hanging_to i m.cut false X)

-- how many lines there are of what dots begin
abbrev pub after_dots_lines : Marker → Block → ℕ
after_dots_lines m X = if m.bare then (if is_blank (next_text X) then 1 else hanging_size X) else lines_of (explicit_form (drop m.cut (first_text X))) X

-- for what dots begin
pub after_dots_end : (i : ℕ) (m : Marker) (X : Block) → explicit_end i (after_dots i m X) ≡ i + after_dots_lines m X
unfolding after_dots
after_dots_end i m X = by m.bare (is_blank (next_text X))
  where
    by : (a b : Bool) → explicit_end i (cond a (cond b EmptyComment (Comment (hanging_part i m.cut true X) Plain)) (explicit_by (explicit_form (drop m.cut (first_text X))) i m X))
        ≡ i + cond a (cond b 1 (hanging_size X)) (lines_of (explicit_form (drop m.cut (first_text X))) X)
    by true true = refl
    by true false = hanging_to i m.cut true X
    by false b = form_end i m (explicit_form (drop m.cut (first_text X))) X

-- the size of explicit markup gives its end
pub explicit_ends : (i : ℕ) (X : Block) → explicit_end i (explicit_of i X) ≡ i + explicit_size X
unfolding explicit_of explicit_size anonymous_of
explicit_ends i X = by (dots (first_text X))
  where
    by : (o : Option Marker) → explicit_end i (explicit_with o i X) ≡ i + explicit_end 0 (explicit_with o 0 X)
    by None = omega arith
    by (Some m) = omega (arith, after_dots_end i m X, after_dots_end 0 m X)

pub explicit_ends_at : (i : ℕ) (X : Block) (x : Explicit) → x ≡ explicit_of i X → explicit_end i x ≡ i + explicit_size X
explicit_ends_at i X x e = rw e (explicit_ends i X)

-- ---- by its first line
pub explicit_dots : (i : ℕ) (X : Block) (m : Marker) → dots (first_text X) ≡ Some m → explicit_of i X ≡ after_dots i m X
unfolding explicit_of
explicit_dots i X m e = rw e refl

pub explicit_other : (i : ℕ) (X : Block) → dots (first_text X) ≡ None → explicit_of i X ≡ anonymous_of i X
unfolding explicit_of
explicit_other i X e = rw e refl

pub explicit_anonymous : (i : ℕ) (X : Block) (m : Marker) → dots (first_text X) ≡ None → underscores (first_text X) ≡ Some m → explicit_of i X ≡ Anonymous (target_part i m.cut X)
unfolding anonymous_of
explicit_anonymous i X m e f = explicit_other i X e ∙ rw f refl

pub size_dots : (X : Block) (m : Marker) → dots (first_text X) ≡ Some m → explicit_size X ≡ explicit_end 0 (after_dots 0 m X)
unfolding explicit_size
size_dots X m e = ap (explicit_end 0) (explicit_dots 0 X m e)

pub size_other : (X : Block) → dots (first_text X) ≡ None → explicit_size X ≡ indented_size X
unfolding explicit_size anonymous_of
size_other X e = ap (explicit_end 0) (explicit_other 0 X e) ∙ omega arith

pub indented_some : (X : Block) → 1 ≤ indented_size X
unfolding indented_size run_size
indented_some X = omega arith

-- ---- what is read after the dots
pub substitution_some : (i n : ℕ) (name : Characters) (d : DirectiveMark) (call : Invocation) (X : Block) → directive_mark_of false (drop n (first_text X)) ≡ Some d → call ≡ call_of i n d X
    → Substitution name (Some call) call.block.to ≡ substitution_with i name n X
unfolding embedded_directive
substitution_some i n name d call X e c =
    rw (e, c) (ap (λ m. Substitution name (Some (call_of i n d X)) m) (hanging_to i (n + d.marker.cut) d.marker.bare X))

pub target_short : (n : ℕ) (t : List ℕ) (mark : TargetMark) → TargetWithin (drop n t) mark → n ≤ length t → length t < 2 ^ 64 → IsTargetShort n mark
target_short n t (Named from len m) w h s = (omega (arith, w.0, length-drop n t), omega (arith, w.1, length-drop n t))
target_short n t (AnonymousMark m) w h s = omega (arith, w, length-drop n t)

-- ---- how far the lines are looked at

pub form_lines : (f g : ExplicitForm) (m : Marker) (X : Block) → f ≡ g → explicit_end 0 (explicit_by f 0 m X) ≡ lines_of g X
form_lines f g m X e = omega (arith, ap (λ x. explicit_end 0 (explicit_by x 0 m X)) e, form_end 0 m g X)

pub alone_size : (m : Marker) (X : Block) → m.bare ≡ true → is_blank (next_text X) ≡ false → explicit_end 0 (after_dots 0 m X) ≡ hanging_size X
unfolding after_dots
alone_size m X bare e = rw (bare, e) (omega (arith, hanging_to 0 m.cut true X))
