-- Explicit markup is paid for: what its parts open, and that they are in its lines.
use Rattle.std.proofs.Common.{◌≡◌, ℕ, ◌+◌, ◌-◌, ◌*◌, ◌≤◌, ◌<◌, Bool, true, false, cond, [], ◌∷◌, length, drop, Option, None, Some, Result, IfOk, arith, refl, sym, ap, ◌∙◌, subst}
use Rattle.std.specs.Prelude.{◌==◌, IfSome}
use Rattle.std.proofs.lemmas.Result.{IfOk-weaker}
use Rattle.rst_text.specs.Block.{Block, first_text, is_blank}
use Rattle.rst_text.specs.Looked.{capped}
use Rattle.rst_text.specs.Reach.{reach}
use Rattle.rst_tree.specs.declared.node.Node.{Node}
use Rattle.rst_markup_lines.specs.ExplicitMarks.{dots, directive_mark_of}
use Rattle.rst_markup_lines.specs.Place.{place_of}
use Rattle.rst_markup_lines.specs.declared.explicit_marks.DirectiveMark.{DirectiveMark}
use Rattle.rst_markup_lines.specs.declared.explicit_marks.LabelKind.{LabelKind}
use Rattle.rst_markup_lines.specs.declared.explicit_marks.LabelKind.TheVariants.{Footnote as FootnoteLabel, Citation as CitationLabel}
use Rattle.rst_markup_lines.specs.declared.explicit_marks.TargetMark.TheVariants.{Named, Anonymous as AnonymousMark}
use Rattle.rst_markup_lines.specs.declared.marker.Marker.{Marker}
use Rattle.rst_markup_lines.specs.declared.place.Characters.{Characters}
use Rattle.rst_markup_blocks.specs.Begun.{IsBegun, kind_in}
use Rattle.rst_markup_blocks.specs.Conditions.{next_text}
use Rattle.rst_markup_blocks.specs.Ends.{row_size, row_reach}
use Rattle.rst_markup_blocks.specs.Explicit.{is_explicit_kind, call_by, embedded_directive, label_with, explicit_by, after_dots, anonymous_of, explicit_with, explicit_of, explicit_size, explicit_end}
use Rattle.rst_markup_blocks.specs.ExplicitMarkup.{explicit_form, hanging_part}
use Rattle.rst_markup_blocks.specs.Kinds.{kind_at}
use Rattle.rst_markup_blocks.specs.Sizes.{hanging_size}
use Rattle.rst_markup_blocks.specs.declared.begun.Begun.{Begun}
use Rattle.rst_markup_blocks.specs.declared.begun.Begun.TheVariants.{Explicit, Anonymous}
use Rattle.rst_markup_blocks.specs.declared.explicit_markup.ExplicitForm.{ExplicitForm}
use Rattle.rst_markup_blocks.specs.declared.explicit_markup.ExplicitForm.TheVariants.{Label, Target as TargetForm, Substitution as SubstitutionForm, Directive as DirectiveForm, Comment as CommentForm}
use Rattle.rst_markup_blocks.specs.declared.forms.CommentCause.TheVariants.{Plain}
use Rattle.rst_markup_blocks.specs.declared.forms.Explicit.{Explicit as Markup}
use Rattle.rst_markup_blocks.specs.declared.forms.Explicit.TheVariants as markup
use Rattle.rst_markup_blocks.specs.declared.forms.Invocation.{Invocation}
use Rattle.rst_markup_blocks.specs.declared.kind.Kind.{Kind}
use Rattle.rst_markup_blocks.specs.declared.kind.Kind.TheVariants as kinds
use Rattle.rst_markup_blocks.specs.declared.part.Part.{Part}
use Rattle.rst_markup_blocks.proofs.ExplicitLemmas.{size_other}
use Rattle.rst_block_state.specs.machine.Begins.{construct_with}
use Rattle.rst_block_state.specs.Constructs.{explicit_markup}
use Rattle.rst_block_state.specs.Inside.{markup_blocks, opened_by, cells_by}
use Rattle.rst_block_state.specs.looks.Ledger.{unread_at, totals, next_blocks, run_looks, IsPaid, Opens}
use Rattle.rst_block_state.specs.Markup.{markup_by}
use Rattle.rst_block_state.specs.machine.Meanings.{within_at}
use Rattle.rst_block_state.specs.machine.OpenBlocks.{IsMoved}
use Rattle.rst_block_state.specs.Texts.{lines_in}
use Rattle.rst_block_nodes.specs.declared.fault.BlockFault.{BlockFault}
use Rattle.rst_block_state.specs.declared.open_block.OpenBlock.{OpenBlock}
use Rattle.rst_block_state.specs.declared.texts.Pass.{Pass}
use Rattle.rst_block_state.specs.declared.waits.Waits.TheVariants.{Element}
use Rattle.rst_block_state.specs.declared.step.Step.{Step}
use Rattle.rst_block_state.specs.declared.step.Step.TheVariants.{Open}
use Rattle.rst_block_markup.specs.MarkupSteps.{IsPartRead}
use Rattle.rst_block_markup.proofs.MarkupReads.{explicit_some, no_dots}
use Rattle.rst_block_markup.proofs.PartLemmas.{part_as}
use Rattle.rst_block_state.proofs.NextConstructs.{IsFilled, span_to}
use Rattle.rst_block_state.proofs.PaidSteps.{paid_begun}
use Rattle.rst_block_state.proofs.PartFacts.{hanging_from}

-- ---- what a part of a construct opens

-- the lines of a part come next, whose nodes an element waits for
pub opens_part : {old new : OpenBlock} (B : Block) (element : Node) (body : Part) (looks : ℕ) → IsMoved old new → new.at ≡ body.to
    → Opens 0 old new B (lines_in B body ∷ []) body.to (Open (Element element) body None) looks looks
opens_part B element body looks h at = record {
  goes = tt;
  depth = h.depth;
  run = ap run_looks h.run;
  place = at;
  blocks = refl;
  cells = refl;
  most = omega (arith, ap run_looks h.run);
  least = omega arith;
}

-- ---- where the parts of explicit markup are

-- the extents of explicit markup in line i begin in that line or later, and a directive that a definition holds ends with it
abbrev pub BeginsIn : ℕ → Markup → Type 0
BeginsIn i (markup.Footnote label body) = i ≤ body.from
BeginsIn i (markup.Citation label body) = i ≤ body.from
BeginsIn i (markup.Target name text) = i ≤ text.from
BeginsIn i (markup.Anonymous text) = i ≤ text.from
BeginsIn i (markup.Substitution name embedded end) = IfSome embedded (λ (call : Invocation). (i ≤ call.block.from) × (call.block.to ≤ end))
BeginsIn i (markup.Directive call) = i ≤ call.block.from
BeginsIn i (markup.Comment text cause) = i ≤ text.from
BeginsIn i markup.EmptyComment = Unit {0}

-- what has a label
label_begins : (i : ℕ) (k : LabelKind) (label : Characters) (body : Part) → i ≤ body.from → BeginsIn i (label_with k label body)
label_begins i FootnoteLabel label body h = h
label_begins i CitationLabel label body h = h

-- what a substitution definition holds
embedded_begins : (i n : ℕ) (X : Block) → IfSome (embedded_directive i n X) (λ (call : Invocation). (i ≤ call.block.from) × (call.block.to ≤ i + hanging_size X))
unfolding embedded_directive
embedded_begins i n X = by (directive_mark_of false (drop n (first_text X)))
  where
    by : (o : Option DirectiveMark) → IfSome (call_by o i n X) (λ (call : Invocation). (i ≤ call.block.from) × (call.block.to ≤ i + hanging_size X))
    by None = tt
    by (Some d) = let h = hanging_from i (n + d.marker.cut) d.marker.bare X in (h.0, omega (arith, h.1))

-- markup of any form
form_begins : (i : ℕ) (m : Marker) (f : ExplicitForm) (X : Block) → BeginsIn i (explicit_by f i m X)
form_begins i m (Label l) X =
    let n : ℕ = m.cut + l.marker.cut in
    label_begins i l.kind (place_of (m.cut + 1) l.len) (hanging_part i n l.marker.bare X) (hanging_from i n l.marker.bare X).0
form_begins i m (TargetForm (Named from len k)) X = omega arith
form_begins i m (TargetForm (AnonymousMark k)) X = omega arith
form_begins i m (SubstitutionForm len x) X = embedded_begins i (m.cut + x.cut) X
form_begins i m (DirectiveForm d) X = (hanging_from i (m.cut + d.marker.cut) d.marker.bare X).0
form_begins i m (CommentForm cause) X = (hanging_from i m.cut false X).0

-- what dots begin
after_dots_begins : (i : ℕ) (m : Marker) (X : Block) → BeginsIn i (after_dots i m X)
unfolding after_dots
after_dots_begins i m X = by m.bare (is_blank (next_text X))
  where
    form : ExplicitForm
    form = explicit_form (drop m.cut (first_text X))

    by : (a b : Bool) → BeginsIn i (cond a (cond b markup.EmptyComment (markup.Comment (hanging_part i m.cut true X) Plain)) (explicit_by form i m X))
    by true true = tt
    by true false = (hanging_from i m.cut true X).0
    by false b = form_begins i m form X

-- explicit markup that begins in the line
begins : (i : ℕ) (X : Block) → BeginsIn i (explicit_of i X)
unfolding explicit_of anonymous_of
begins i X = by (dots (first_text X))
  where
    by : (o : Option Marker) → BeginsIn i (explicit_with o i X)
    by None = omega arith
    by (Some m) = after_dots_begins i m X

-- the same of the markup that is found, which has this form
pub form_in : (i : ℕ) (X : Block) (found form : Markup) → found ≡ explicit_of i X → found ≡ form → BeginsIn i form
form_in i X found form e is = subst (BeginsIn i) (sym e ∙ is) (begins i X)

-- a directive that a definition holds begins in the definition's first line or later, and ends with it
pub embedded_in : (i end stop : ℕ) (X : Block) (found : Markup) (name : Characters) (embedded : Option Invocation) → found ≡ explicit_of i X → found ≡ markup.Substitution name embedded stop → end ≡ explicit_end i found
    → IfSome embedded (λ (call : Invocation). (i ≤ call.block.from) × (call.block.to ≤ end))
embedded_in i end stop X found name embedded e is ends =
    let there : stop ≡ end = sym (ends ∙ ap (explicit_end i) is) in
    subst (λ n. IfSome embedded (λ (call : Invocation). (i ≤ call.block.from) × (call.block.to ≤ n))) there (form_in i X found (markup.Substitution name embedded stop) e is)

-- ---- what explicit markup opens

-- it is read as its form is, where this takes no more than 20 looks for each of its lines
pub form_read : {few : ℕ} {B : Block} {old new : OpenBlock} {before mid after : Pass} {found form : Markup} {place end : ℕ} {result : Result Step BlockFault}
    → IsPartRead few B old mid (markup_by form (within_at old.depth) B (span_to old.at place) (drop old.at B)) (markup_blocks form (unread_at old.depth) B old.at) place new after result
    → found ≡ form → place ≡ end → mid.numbers ≡ before.numbers → capped before.looks ≤ mid.looks → mid.looks + few ≤ before.looks + 20 * (end - old.at)
    → IsPartRead (20 * (end - old.at)) B old before (markup_by found (within_at old.depth) B (span_to old.at end) (drop old.at B)) (markup_blocks found (unread_at old.depth) B old.at) end new after result
form_read {few} {B} {old} {new} {before} {mid} {after} {found} {form} {place} {end} {result} h is stop same start enough =
    let Of : Markup → ℕ → Type 0 = λ x e. IsPartRead few B old mid (markup_by x (within_at old.depth) B (span_to old.at e) (drop old.at B)) (markup_blocks x (unread_at old.depth) B old.at) e new after result in
    let there : Of form end = subst (Of form) stop h in
    let all : Of found end = subst (λ x. Of x end) (sym is) there in
    part_as all refl refl same start enough

-- it is paid for, once its lines were looked at and the run of it has begun
step_paid : (old mid new : OpenBlock) (B : Block) (found : Markup) (end : ℕ) (s : Step) (before looked begun after : ℕ) → old.at < length B → is_explicit_kind (kind_at (drop old.at B)) ≡ true
    → end ≡ old.at + explicit_size (drop old.at B) → found ≡ explicit_of old.at (drop old.at B) → mid.at ≡ old.at → mid.depth ≡ old.depth
    → looked ≤ before + 2 * reach (explicit_size (drop old.at B)) (drop old.at B) → capped (before + explicit_size (drop old.at B)) ≤ looked
    → begun + run_looks mid.run ≤ looked + run_looks old.run + 1 → capped looked ≤ begun
    → Opens (20 * (end - mid.at)) mid new B (markup_blocks found (unread_at mid.depth) B mid.at) end s begun after → IsPaid 29 old new B s before after
step_paid old mid new B found end s before looked begun after inside kind stop is at depth high low run later h = by (kind_at X) refl kind
  where
    X : Block
    X = drop old.at B

    D : ℕ
    D = old.depth

    blocks : totals D (next_blocks B s) ≡ totals D (markup_blocks (explicit_of old.at X) (unread_at D) B old.at)
    blocks =
        ap (λ d. totals d (next_blocks B s)) (sym depth)
        ∙ h.blocks
        ∙ ap (λ d. totals d (markup_blocks found (unread_at d) B mid.at)) depth
        ∙ ap (λ i. totals D (markup_blocks found (unread_at D) B i)) at
        ∙ ap (λ x. totals D (markup_blocks x (unread_at D) B old.at)) is

    -- by the mark in its first line
    paid : (mark : Begun) → IsBegun X mark → IsFilled mark → construct_with mark (D == 0) X ≡ explicit_markup → row_size (kind_in mark) (D == 0) X ≡ explicit_size X
        → row_reach (kind_in mark) (D == 0) X ≡ reach (explicit_size X) X → IsPaid 29 old new B s before after
    paid mark begins filled what size far =
        let some = explicit_some B old.at inside in
        paid_begun 29 mark old new B s before after begins filled h.goes (h.depth ∙ depth)
        (h.place ∙ stop ∙ ap (λ n. old.at + n) (sym size))
        (blocks ∙ ap (λ k. totals D (opened_by k (unread_at D) B old.at X)) (sym what))
        (ap (totals D) h.cells ∙ ap (λ k. totals D (cells_by k B old.at)) (sym what))
        (omega (arith, h.most, run, high, far, some, stop, at))
        (omega (arith, size, low, later, h.least))

    by : (k : Kind) → kind_at X ≡ k → is_explicit_kind k ≡ true → IsPaid 29 old new B s before after
    by kinds.Explicit k e = paid Explicit (record { kind = sym k; mark = tt }) tt refl refl refl
    by kinds.Anonymous k e =
        let same = size_other X (no_dots X k) in
        paid Anonymous (record { kind = sym k; mark = tt }) tt refl (sym same) (ap (λ n. reach n X) (sym same))
    by _ k e = cc

-- the same of the step that a call gives
pub markup_paid : (old mid new : OpenBlock) (B : Block) (found : Markup) (end : ℕ) (result : Result Step BlockFault) (before looked begun after : ℕ) → old.at < length B
    → is_explicit_kind (kind_at (drop old.at B)) ≡ true → end ≡ old.at + explicit_size (drop old.at B) → found ≡ explicit_of old.at (drop old.at B) → mid.at ≡ old.at → mid.depth ≡ old.depth
    → looked ≤ before + 2 * reach (explicit_size (drop old.at B)) (drop old.at B) → capped (before + explicit_size (drop old.at B)) ≤ looked
    → begun + run_looks mid.run ≤ looked + run_looks old.run + 1 → capped looked ≤ begun
    → IfOk result (λ s. Opens (20 * (end - mid.at)) mid new B (markup_blocks found (unread_at mid.depth) B mid.at) end s begun after) → IfOk result (λ s. IsPaid 29 old new B s before after)
markup_paid old mid new B found end result before looked begun after inside kind stop is at depth high low run later =
    IfOk-weaker result (λ s. Opens (20 * (end - mid.at)) mid new B (markup_blocks found (unread_at mid.depth) B mid.at) end s begun after) (λ s. IsPaid 29 old new B s before after)
    (λ s h. step_paid old mid new B found end s before looked begun after inside kind stop is at depth high low run later h)
