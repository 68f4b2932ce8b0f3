-- After the name of a directive in explicit markup follows a call; so explicit markup calls the same directives with and without program code.
use Rattle.std.proofs.Common.{◌≡◌, ℕ, zero, suc, ◌+◌, Bool, true, false, not, cond, ◌&&◌, ◌||◌, ◌==◌, [], ◌∷◌, drop, Option, Some, None, option_map, refl, sym, ap, subst, ◌∙◌, arith}
use Rattle.std.proofs.lemmas.List.{drop-drop}
use Rattle.std.specs.Option.{option_and_then}
use Rattle.rst_text.proofs.Choices.{none_is}
use Rattle.rst_text.specs.Block.{Block, first_text, is_blank}
use Rattle.rst_markup_lines.specs.ExplicitMarks.{colons, directive_mark_by, directive_mark_of, dots, label_of, substitution_of, target_of}
use Rattle.rst_markup_lines.specs.TextStart.{begins_with}
use Rattle.rst_markup_lines.specs.Marker.{marker_of}
use Rattle.rst_markup_lines.specs.Place.{place_of}
use Rattle.rst_markup_lines.specs.declared.explicit_marks.DirectiveMark.{DirectiveMark}
use Rattle.rst_markup_lines.specs.declared.explicit_marks.LabelKind.{LabelKind}
use Rattle.rst_markup_lines.specs.declared.explicit_marks.LabelKind.TheVariants.{Footnote as FootnoteLabel, Citation as CitationLabel}
use Rattle.rst_markup_lines.specs.declared.explicit_marks.LabelMark.{LabelMark}
use Rattle.rst_markup_lines.specs.declared.explicit_marks.SubstitutionMark.{SubstitutionMark}
use Rattle.rst_markup_lines.specs.declared.explicit_marks.SubstitutionMark.TheVariants.{Named as NamedSubstitution, Unclosed, Tight}
use Rattle.rst_markup_lines.specs.declared.explicit_marks.TargetMark.{TargetMark}
use Rattle.rst_markup_lines.specs.declared.explicit_marks.TargetMark.TheVariants.{Named, Anonymous as AnonymousMark}
use Rattle.rst_markup_lines.specs.declared.marker.Marker.{Marker}
use Rattle.rst_markup_lines.specs.declared.place.Characters.{Characters}
use Rattle.rst_markup_blocks.specs.Conditions.{next_text}
use Rattle.rst_markup_blocks.specs.Explicit.{anonymous_of, after_dots, call_by, call_of, dots_alone, explicit_by, explicit_of, explicit_with, embedded_directive, label_with, substitution_with, target_with}
use Rattle.rst_markup_blocks.specs.ExplicitMarkup.{comment_cause, explicit_form, first_form, hanging_part, substitution_form}
use Rattle.rst_markup_blocks.specs.Sizes.{hanging_size}
use Rattle.rst_markup_blocks.specs.declared.explicit_markup.ExplicitForm.TheVariants.{Label, Target as TargetForm, Directive as DirectiveForm, Comment as CommentForm}
use Rattle.rst_markup_blocks.specs.declared.forms.CommentCause.{CommentCause}
use Rattle.rst_markup_blocks.specs.declared.forms.CommentCause.TheVariants.{Plain}
use Rattle.rst_markup_blocks.specs.declared.forms.Explicit.{Explicit}
use Rattle.rst_markup_blocks.specs.declared.forms.Explicit.TheVariants.{Substitution, Directive, Comment, EmptyComment}
use Rattle.rst_markup_blocks.specs.declared.part.Part.{Part}
use Rattle.rst_markup_directives.specs.Characters.{Text}
use Rattle.rst2pseudoxml_run.specs.CodeCalls.{begins_call, begins_colons, holds_code, IsWithoutCode}
use Rattle.rst2pseudoxml_run.proofs.ProfilesCode.{and_right, both, directive_alike, or_left, or_right, IsCalledIn}
use Rattle.rst2pseudoxml_run.proofs.ProfilesNeeds.{CallsAgreeUnder}
use Rattle.rst_block.proofs.InsideReads.{CallsAgree}

-- two colons, and the length of the mark before them
abbrev Colons : ℕ → ℕ → Text → DirectiveMark → Type 0
Colons len n t mark = (begins_with 58 (drop n t) ≡ true) × (begins_with 58 (drop (n + 1) t) ≡ true) × (mark.len ≡ len)

marked_len : (len : ℕ) (m : Option Marker) (mark : DirectiveMark) → option_and_then (λ m. Some (record { len = len; marker = m })) m ≡ Some mark → mark.len ≡ len
marked_len len None mark h = absurd (none_is h)
marked_len len (Some m) mark h = sym (ap (λ o. option_len o) h)
  where
    option_len : Option DirectiveMark → ℕ
    option_len None = 0
    option_len (Some d) = d.len

colons_follow : (len n : ℕ) (t : Text) (mark : DirectiveMark) → colons len n t ≡ Some mark → Colons len n t mark
unfolding colons
colons_follow len n t mark h = by (begins_with 58 (drop n t)) (begins_with 58 (drop (n + 1) t)) h
  where
    by : (a b : Bool) → cond (not a || not b) None (option_and_then (λ m. Some (record { len = len; marker = m })) (marker_of (n + 2) t)) ≡ Some mark → (a ≡ true) × (b ≡ true) × (mark.len ≡ len)
    by true true k = (refl, refl, marked_len len (marker_of (n + 2) t) mark k)
    by true false k = absurd (none_is k)
    by false b k = absurd (none_is k)

-- n characters are the name
marked_call : (spaced : Bool) (n : ℕ) (t : Text) (mark : DirectiveMark) → directive_mark_by spaced n t ≡ Some mark → begins_call (drop mark.len t) ≡ true
unfolding begins_call
marked_call spaced n t mark h = by (n == 0) (spaced && begins_with 32 (drop n t)) refl h
  where
    next : (k : ℕ) → drop 1 (drop k t) ≡ drop (k + 1) t
    next k = drop-drop 1 k t ∙ ap (λ i. drop i t) (omega arith)

    two : (k : ℕ) → begins_with 58 (drop k t) ≡ true → begins_with 58 (drop (k + 1) t) ≡ true → begins_colons (drop k t) ≡ true
    two k a b = both _ _ a (ap (begins_with 58) (next k) ∙ b)

    by : (none space : Bool) → (spaced && begins_with 32 (drop n t)) ≡ space → cond none None (cond space (colons n (n + 1) t) (colons n n t)) ≡ Some mark → begins_call (drop mark.len t) ≡ true
    by true space e k = absurd (none_is k)
    by false true e k =
        let c = colons_follow n (n + 1) t mark k in
        subst (λ i. begins_call (drop i t) ≡ true) (sym c.2)
        (or_right (begins_colons (drop n t)) _ (both _ _ (and_right _ _ e) (ap begins_colons (next n) ∙ two (n + 1) c.0 c.1)))
    by false false e k =
        let c = colons_follow n n t mark k in
        subst (λ i. begins_call (drop i t) ≡ true) (sym c.2) (or_left _ _ (two n c.0 c.1))

-- after the name in the mark of a directive follows a call
marks_are_calls : (spaced : Bool) (t : Text) (mark : DirectiveMark) → directive_mark_of spaced t ≡ Some mark → begins_call (drop mark.len t) ≡ true
unfolding directive_mark_of
marks_are_calls spaced t mark h = marked_call spaced _ t mark h

-- a directive that explicit markup calls in a line is called there
abbrev IsMarkupIn : Text → Explicit → Type 0
IsMarkupIn t (Directive call) = IsCalledIn t call
IsMarkupIn t (Substitution name (Some call) end) = IsCalledIn t call
IsMarkupIn t _ = Unit {0}

module _ (i : ℕ) (X : Block) where
  abbrev t : Text
  t = first_text X

  -- a call after n characters of the line
  called_after : (n : ℕ) (spaced : Bool) (mark : DirectiveMark) → directive_mark_of spaced (drop n t) ≡ Some mark → IsCalledIn t (call_of i n mark X)
  called_after n spaced mark h =
      (omega arith, ap begins_call (sym (drop-drop mark.len n t ∙ ap (λ k. drop k t) (omega arith))) ∙ marks_are_calls spaced (drop n t) mark h)

  embedded_called : (n : ℕ) (name : Characters) (end : ℕ) (d : Option DirectiveMark) → directive_mark_of false (drop n t) ≡ d → IsMarkupIn t (Substitution name (call_by d i n X) end)
  embedded_called n name end None h = tt
  embedded_called n name end (Some mark) h = called_after n false mark h

  substitution_called : (n : ℕ) (name : Characters) → IsMarkupIn t (substitution_with i name n X)
  unfolding embedded_directive
  substitution_called n name = embedded_called n name (i + hanging_size X) (directive_mark_of false (drop n t)) refl

  label_called : (kind : LabelKind) (label : Characters) (body : Part) → IsMarkupIn t (label_with kind label body)
  label_called FootnoteLabel label body = tt
  label_called CitationLabel label body = tt

  target_called : (n : ℕ) (mark : TargetMark) → IsMarkupIn t (target_with i n mark X)
  target_called n (Named from len marker) = tt
  target_called n (AnonymousMark marker) = tt

  -- the first of the rows
  rows_called : (m : Marker) (cause : CommentCause) (l : Option LabelMark) (g : Option TargetMark) (s : Option SubstitutionMark) (d : Option DirectiveMark)
      → directive_mark_of true (drop m.cut t) ≡ d
      → IsMarkupIn t (explicit_by (first_form (option_map (λ l. Label l) l ∷ option_map (λ m. TargetForm m) g ∷ option_and_then substitution_form s ∷ option_map (λ d. DirectiveForm d) d ∷ []) (CommentForm cause)) i m X)
  rows_called m cause (Some label) g s d h = label_called label.kind (place_of (m.cut + 1) label.len) (hanging_part i (m.cut + label.marker.cut) label.marker.bare X)
  rows_called m cause None (Some target) s d h = target_called m.cut target
  rows_called m cause None None (Some (NamedSubstitution len marker)) d h = substitution_called (m.cut + marker.cut) (place_of (m.cut + 1) len)
  rows_called m cause None None (Some Unclosed) (Some mark) h = called_after m.cut true mark h
  rows_called m cause None None (Some Tight) (Some mark) h = called_after m.cut true mark h
  rows_called m cause None None None (Some mark) h = called_after m.cut true mark h
  rows_called m cause _ _ _ _ h = tt

  form_called : (m : Marker) → IsMarkupIn t (explicit_by (explicit_form (drop m.cut t)) i m X)
  unfolding explicit_form
  form_called m =
      let u = drop m.cut t in
      rows_called m (comment_cause u) (label_of u) (target_of u) (substitution_of u) (directive_mark_of true u) refl

  alone_called : (m : Marker) (blank : Bool) → IsMarkupIn t (cond blank EmptyComment (Comment (hanging_part i m.cut true X) Plain))
  alone_called m true = tt
  alone_called m false = tt

  dots_called : (m : Marker) (bare : Bool) → IsMarkupIn t (cond bare (dots_alone i m X) (explicit_by (explicit_form (drop m.cut t)) i m X))
  dots_called m true = alone_called m (is_blank (next_text X))
  dots_called m false = form_called m

  with_called : (m : Option Marker) → IsMarkupIn t (explicit_with m i X)
  unfolding after_dots anonymous_of
  with_called None = tt
  with_called (Some m) = dots_called m m.bare

  markup_called : IsMarkupIn t (explicit_of i X)
  unfolding explicit_of
  markup_called = with_called (dots t)

-- no call is in the first line of what is left of a block
pub line_without_code : (B : Block) (i : ℕ) → IsWithoutCode B → holds_code (first_text (drop i B)) ≡ false
line_without_code [] zero free = refl
line_without_code [] (suc i) free = refl
line_without_code (l ∷ ls) zero free = free.0
line_without_code (l ∷ ls) (suc i) free = line_without_code ls i free.1

agree_by : (B : Block) (i : ℕ) (markup : Explicit) → holds_code (first_text (drop i B)) ≡ false → IsMarkupIn (first_text (drop i B)) markup → CallsAgree false true B i markup
agree_by B i (Directive call) free called = λ place paragraph. directive_alike false true B i call place paragraph called free
agree_by B i (Substitution name (Some call) end) free called = λ place paragraph. directive_alike false true B i call place paragraph called free
agree_by B i _ free called = tt

-- explicit markup in a block without calls of program code calls the same directive with and without it
pub calls_agree : CallsAgreeUnder IsWithoutCode
calls_agree B i free = agree_by B i (explicit_of i (drop i B)) (line_without_code B i free) (markup_called i (drop i B))
