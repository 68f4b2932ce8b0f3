-- The blocks that explicit markup opens are in its lines, one after another, and begin with a line that isn't blank.
use Rattle.std.proofs.Common.{◌≡◌, ℕ, ◌+◌, ◌-◌, ◌<◌, ◌≤◌, Bool, true, false, cond, List, length, drop, Option, None, Some, arith, ap, ◌∙◌}
use Rattle.std.specs.Prelude.{IfSome, unwrap_or, option_map}
use Rattle.std.specs.Option.{option_and_then}
use Rattle.std.proofs.lemmas.List.{drop-drop}
use Rattle.rst_markup_blocks.proofs.ExplicitLemmas.{label_end, explicit_ends, hanging_block}
use Rattle.rst_text.specs.Block.{Block, first_text, is_blank}
use Rattle.rst_text.proofs.CutLaws.{length-cut}
use Rattle.rst_markup_lines.specs.ExplicitMarks.{dots, label_of, target_of, substitution_of, directive_mark_of}
use Rattle.rst_markup_lines.specs.Place.{place_of}
use Rattle.rst_markup_lines.specs.declared.explicit_marks.DirectiveMark.{DirectiveMark}
use Rattle.rst_markup_lines.specs.declared.explicit_marks.LabelKind.{LabelKind}
use Rattle.rst_markup_lines.specs.declared.explicit_marks.LabelKind.TheVariants.{Footnote as FootnoteLabel, Citation as CitationLabel}
use Rattle.rst_markup_lines.specs.declared.explicit_marks.SubstitutionMark.TheVariants.{Named as NamedSubstitution, Unclosed, Tight}
use Rattle.rst_markup_lines.specs.declared.explicit_marks.TargetMark.TheVariants.{Named}
use Rattle.rst_markup_lines.specs.declared.marker.Marker.{Marker}
use Rattle.rst_markup_lines.specs.declared.place.Characters.{Characters}
use Rattle.rst_markup_blocks.specs.Conditions.{next_text}
use Rattle.rst_markup_blocks.specs.Explicit.{call_of, call_by, embedded_directive, label_with, explicit_by, after_dots, anonymous_of, explicit_with, explicit_of, explicit_size, explicit_end}
use Rattle.rst_markup_blocks.specs.ExplicitMarkup.{explicit_form, substitution_form, hanging_part}
use Rattle.rst_markup_blocks.specs.Parts.{IsBlock}
use Rattle.rst_markup_blocks.specs.Sizes.{hanging_size}
use Rattle.rst_markup_blocks.specs.declared.explicit_markup.ExplicitForm.{ExplicitForm}
use Rattle.rst_markup_blocks.specs.declared.explicit_markup.ExplicitForm.TheVariants.{Label, Target, Substitution, Directive}
use Rattle.rst_markup_blocks.specs.declared.forms.CommentCause.TheVariants.{Plain}
use Rattle.rst_markup_blocks.specs.declared.forms.Explicit.{Explicit}
use Rattle.rst_markup_blocks.specs.declared.forms.Explicit.TheVariants.{EmptyComment, Comment as CommentMarkup}
use Rattle.rst_markup_blocks.specs.declared.forms.Invocation.{Invocation}
use Rattle.rst_markup_blocks.specs.declared.part.Part.{Part}
use Rattle.rst_markup_directives.specs.declared.found.Place.TheVariants.{Top, Body, Substitution as InDefinition}
use Rattle.rst_block_state.specs.looks.Budget.{sum_of}
use Rattle.rst_block_state.specs.looks.BudgetLaws.{is_trimmed, IsFronted, HaveAtMostLines}
use Rattle.rst_block_state.specs.Inside.{substitution_blocks, markup_blocks}
use Rattle.rst_block_state.specs.Texts.{lines_in}
use Rattle.rst_block_state.specs.Within.{Within}
use Rattle.rst_block_markup.proofs.ContentFacts.{none_within, more_within, directive_within}
use Rattle.rst_block_state.proofs.MarkFacts.{Tells, label_tells, directive_tells}
use Rattle.rst_block_state.proofs.PartFacts.{hanging_fronted, hanging_from, hanging_le}

-- ---- marks of forms

-- the marker of a label or of a directive shows whether anything comes after it
abbrev FormTells : List ℕ → ExplicitForm → Type 0
FormTells t (Label l) = Tells t l.marker
FormTells t (Directive d) = Tells t d.marker
FormTells t form = Unit {0}

row_tells : (t : List ℕ) (o : Option ExplicitForm) (other : ExplicitForm) → IfSome o (FormTells t) → FormTells t other → FormTells t (unwrap_or o other)
row_tells t None other h k = k
row_tells t (Some f) other h k = h

map_tells : {A : Type 0} (t : List ℕ) (f : A → ExplicitForm) (o : Option A) → IfSome o (λ a. FormTells t (f a)) → IfSome (option_map f o) (FormTells t)
map_tells t f None h = tt
map_tells t f (Some a) h = h

any_tells : {A : Type 0} (t : List ℕ) (f : A → ExplicitForm) (o : Option A) → ((a : A) → FormTells t (f a)) → IfSome (option_map f o) (FormTells t)
any_tells t f None h = tt
any_tells t f (Some a) h = h a

form_tells : (t : List ℕ) → FormTells t (explicit_form t)
unfolding explicit_form
form_tells t =
    row_tells t _ _ (map_tells t (λ l. Label l) (label_of t) (label_tells t))
    (row_tells t _ _ (any_tells t (λ m. Target m) (target_of t) (λ m. tt))
    (row_tells t _ _ (by (substitution_of t))
    (row_tells t _ _ (map_tells t (λ d. Directive d) (directive_mark_of true t) (directive_tells true t)) tt)))
  where
    by : (o : _) → IfSome (option_and_then substitution_form o) (FormTells t)
    by None = tt
    by (Some (NamedSubstitution n m)) = tt
    by (Some Unclosed) = tt
    by (Some Tight) = tt

-- ---- the blocks of a form

-- a marker after n characters
shifted_tells : (n : ℕ) (t : List ℕ) (m : Marker) → Tells (drop n t) m → m.bare ≡ is_blank (drop (n + m.cut) t)
shifted_tells n t m h = h ∙ ap is_blank (drop-drop m.cut n t)

-- a directive's block
abbrev IsCalled : Block → ℕ → Invocation → Type 0
IsCalled B i call = IsFronted (lines_in B call.block) × (length (lines_in B call.block) ≡ call.block.to - call.block.from) × (length (lines_in B call.block) ≤ hanging_size (drop i B))

call_is : (B : Block) (i n : ℕ) (d : DirectiveMark) → is_trimmed B ≡ true → i < length B → Tells (drop n (first_text (drop i B))) d.marker → IsCalled B i (call_of i n d (drop i B))
call_is B i n d h inside tells =
    let X : Block = drop i B in
    let cut : ℕ = n + d.marker.cut in
    let p : Part = hanging_part i cut d.marker.bare X in
    let b : IsBlock B p = hanging_block B i cut d.marker.bare inside in
    (hanging_fronted B i cut d.marker.bare h (shifted_tells n (first_text X) d.marker tells), length-cut B p.from p.to p.first_cut p.rest_cut b.within, hanging_le B X i cut d.marker.bare)

embedded_is : (c : Within) (B : Block) (i n : ℕ) → is_trimmed B ≡ true → i < length B → HaveAtMostLines (hanging_size (drop i B)) (substitution_blocks (embedded_directive i n (drop i B)) c B i)
unfolding embedded_directive
embedded_is c B i n h inside = by (directive_mark_of false (drop n (first_text (drop i B)))) (directive_tells false (drop n (first_text (drop i B))))
  where
    X : Block
    X = drop i B

    by : (o : Option DirectiveMark) → IfSome o (λ d. Tells (drop n (first_text X)) d.marker) → HaveAtMostLines (hanging_size X) (substitution_blocks (call_by o i n X) c B i)
    by None tells = none_within (hanging_size X)
    by (Some d) tells =
        let call : Invocation = call_of i n d X in
        let k = call_is B i n d h inside tells in
        more_within (length (lines_in B call.block)) (hanging_size X) _ k.2 (directive_within c B i call InDefinition h k.0 k.1)

label_is : (c : Within) (B : Block) (i : ℕ) (k : LabelKind) (label : Characters) (body : Part) → IsFronted (lines_in B body) → length (lines_in B body) ≤ hanging_size (drop i B)
    → HaveAtMostLines (hanging_size (drop i B)) (markup_blocks (label_with k label body) c B i)
unfolding sum_of
label_is c B i FootnoteLabel label body f few = record { few = omega (arith, few); fronted = (f, tt) }
label_is c B i CitationLabel label body f few = record { few = omega (arith, few); fronted = (f, tt) }

-- the blocks of markup that ends at its place
abbrev AreOf : Explicit → Within → Block → ℕ → Type 0
AreOf x c B i = HaveAtMostLines (explicit_end i x - i) (markup_blocks x c B i)

form_is : (c : Within) (B : Block) (i : ℕ) (m : Marker) (f : ExplicitForm) → is_trimmed B ≡ true → i < length B → FormTells (drop m.cut (first_text (drop i B))) f → AreOf (explicit_by f i m (drop i B)) c B i
form_is c B i m (Label l) h inside tells =
    let X : Block = drop i B in
    let cut : ℕ = m.cut + l.marker.cut in
    let place : Characters = place_of (m.cut + 1) l.len in
    let p : Part = hanging_part i cut l.marker.bare X in
    let f : IsFronted (lines_in B p) = hanging_fronted B i cut l.marker.bare h (shifted_tells m.cut (first_text X) l.marker tells) in
    more_within (hanging_size X) (explicit_end i (label_with l.kind place p) - i) _ (omega (arith, label_end i l.kind place p, (hanging_from i cut l.marker.bare X).1)) (label_is c B i l.kind place p f (hanging_le B X i cut l.marker.bare))
form_is c B i m (Target (Named from len k)) h inside tells = none_within _
form_is c B i m (Substitution len x) h inside tells = more_within (hanging_size (drop i B)) (i + hanging_size (drop i B) - i) _ (omega arith) (embedded_is c B i (m.cut + x.cut) h inside)
form_is c B i m (Directive d) h inside tells =
    let X : Block = drop i B in
    let call : Invocation = call_of i m.cut d X in
    let k = call_is B i m.cut d h inside tells in
    more_within (length (lines_in B call.block)) (call.block.to - i) _ (omega (arith, k.2, (hanging_from i (m.cut + d.marker.cut) d.marker.bare X).1)) (directive_within c B i call (cond c.titles Top Body) h k.0 k.1)
form_is c B i m _ h inside tells = none_within _

-- ---- explicit markup

after_dots_is : (c : Within) (B : Block) (i : ℕ) (m : Marker) → is_trimmed B ≡ true → i < length B → AreOf (after_dots i m (drop i B)) c B i
unfolding after_dots
after_dots_is c B i m h inside = by m.bare (is_blank (next_text (drop i B)))
  where
    X : Block
    X = drop i B

    t : List ℕ
    t = drop m.cut (first_text X)

    by : (a b : Bool) → AreOf (cond a (cond b EmptyComment (CommentMarkup (hanging_part i m.cut true X) Plain)) (explicit_by (explicit_form t) i m X)) c B i
    by true true = none_within _
    by true false = none_within _
    by false b = form_is c B i m (explicit_form t) h inside (form_tells t)

-- the blocks of explicit markup
pub markup_within : (c : Within) (B : Block) (i : ℕ) → is_trimmed B ≡ true → i < length B → HaveAtMostLines (explicit_size (drop i B)) (markup_blocks (explicit_of i (drop i B)) c B i)
unfolding explicit_of anonymous_of
markup_within c B i h inside = more_within (explicit_end i (explicit_of i X) - i) (explicit_size X) _ (omega (arith, explicit_ends i X)) (by (dots (first_text X)))
  where
    X : Block
    X = drop i B

    by : (o : Option Marker) → AreOf (explicit_with o i X) c B i
    by None = none_within _
    by (Some m) = after_dots_is c B i m h inside

-- an anonymous target opens none
pub anonymous_within : (c : Within) (B : Block) (i n : ℕ) → dots (first_text (drop i B)) ≡ None → HaveAtMostLines n (markup_blocks (explicit_of i (drop i B)) c B i)
unfolding explicit_of anonymous_of
anonymous_within c B i n e = rw e (none_within n)
