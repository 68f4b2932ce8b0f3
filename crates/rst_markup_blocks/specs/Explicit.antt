-- Explicit markup with its extents, on a block whose first line it begins in; that line is at place i (Markup
-- Specification, 'Explicit Markup Blocks').
use Rattle.std.specs.Prelude.{ℕ, ◌+◌, ◌<◌, ◌^◌, Bool, true, false, drop, if◌then◌else◌, Option, None, Some}
use Rattle.rst_text.specs.Block.{Block, first_text, is_blank}
use Rattle.rst_markup_lines.specs.ExplicitMarks.{dots, underscores, directive_mark_of}
use Rattle.rst_markup_lines.specs.Place.{place_of}
use Rattle.rst_markup_lines.specs.declared.explicit_marks.DirectiveMark.{DirectiveMark}
use Rattle.rst_markup_lines.specs.declared.explicit_marks.LabelKind.{LabelKind}
use Rattle.rst_markup_lines.specs.declared.explicit_marks.LabelKind.TheVariants.{Footnote as FootnoteLabel, Citation as CitationLabel}
use Rattle.rst_markup_lines.specs.declared.explicit_marks.TargetMark.{TargetMark}
use Rattle.rst_markup_lines.specs.declared.explicit_marks.TargetMark.TheVariants.{Named, Anonymous as AnonymousMark}
use Rattle.rst_markup_lines.specs.declared.marker.Marker.{Marker}
use Rattle.rst_markup_lines.specs.declared.place.Characters.{Characters}
use Rattle.rst_markup_blocks.specs.ExplicitMarkup.{explicit_form, hanging_part}
use Rattle.rst_markup_blocks.specs.Conditions.{next_text}
use Rattle.rst_markup_blocks.specs.Parts.{IsBlock, IsPlace, IsCall}
use Rattle.rst_markup_blocks.specs.Sizes.{hanging_size, indented_size}
use Rattle.rst_markup_blocks.specs.declared.explicit_markup.ExplicitForm.{ExplicitForm}
use Rattle.rst_markup_blocks.specs.declared.explicit_markup.ExplicitForm.TheVariants.{Label, Target as TargetForm, Substitution as SubstitutionForm, Directive as DirectiveForm, Comment as CommentForm}
use Rattle.rst_markup_blocks.specs.declared.forms.CommentCause.TheVariants.{Plain}
use Rattle.rst_markup_blocks.specs.declared.forms.Explicit.{Explicit}
use Rattle.rst_markup_blocks.specs.declared.forms.Explicit.TheVariants.{Footnote, Citation, Target, Anonymous, Substitution, Directive, Comment, EmptyComment}
use Rattle.rst_markup_blocks.specs.declared.forms.Invocation.{Invocation}
use Rattle.rst_markup_blocks.specs.declared.kind.Kind.{Kind}
use Rattle.rst_markup_blocks.specs.declared.kind.Kind.TheVariants.{Explicit as ExplicitKind, Anonymous as AnonymousKind}
use Rattle.rst_markup_blocks.specs.declared.part.Part.{Part}

-- a line of this kind begins explicit markup
abbrev pub is_explicit_kind : Kind → Bool
is_explicit_kind ExplicitKind = true
is_explicit_kind AnonymousKind = true
is_explicit_kind _ = false

-- ---- what it is

-- the text of a target after n characters: the line and the indented lines below it, with their indentation
abbrev pub target_part : ℕ → ℕ → Block → Part
target_part i n X = record { from = i; to = i + indented_size X; first_cut = n; rest_cut = 0 }

-- after n characters, the ends of the mark's name and of the mark are below 2 ^ 64. No rule of markup: places are machine words
abbrev pub IsTargetShort : ℕ → TargetMark → Type 0
IsTargetShort n (Named from len marker) = (n + from + len < 2 ^ 64) × (n + marker.cut < 2 ^ 64)
IsTargetShort n (AnonymousMark marker) = n + marker.cut < 2 ^ 64

-- a directive with this mark after n characters
abbrev pub call_of : ℕ → ℕ → DirectiveMark → Block → Invocation
call_of i n d X = record { name = place_of n d.len; block = hanging_part i (n + d.marker.cut) d.marker.bare X }

-- the same where there may be no mark
abbrev pub call_by : Option DirectiveMark → ℕ → ℕ → Block → Option Invocation
call_by None i n X = None
call_by (Some d) i n X = Some (call_of i n d X)

-- the directive after n characters, if there is one, with no space before its colons
unfoldable pub embedded_directive : ℕ → ℕ → Block → Option Invocation
embedded_directive i n X = call_by (directive_mark_of false (drop n (first_text X))) i n X

-- a footnote or a citation, by its label
abbrev pub label_with : LabelKind → Characters → Part → Explicit
label_with FootnoteLabel label body = Footnote label body
label_with CitationLabel label body = Citation label body

-- a target with this mark after n characters, by its name or anonymous
abbrev pub target_with : ℕ → ℕ → TargetMark → Block → Explicit
target_with i n (Named from len marker) X = Target (place_of (n + from) len) (target_part i (n + marker.cut) X)
target_with i n (AnonymousMark marker) X = Anonymous (target_part i (n + marker.cut) X)

-- n characters come before what the definition holds
abbrev pub substitution_with : ℕ → Characters → ℕ → Block → Explicit
substitution_with i name n X = Substitution name (embedded_directive i n X) (i + hanging_size X)

-- markup of a form, after its dots
abbrev pub explicit_by : ExplicitForm → ℕ → Marker → Block → Explicit
explicit_by (Label l) i m X = label_with l.kind (place_of (m.cut + 1) l.len) (hanging_part i (m.cut + l.marker.cut) l.marker.bare X)
explicit_by (TargetForm mark) i m X = target_with i m.cut mark X
explicit_by (SubstitutionForm len marker) i m X = substitution_with i (place_of (m.cut + 1) len) (m.cut + marker.cut) X
explicit_by (DirectiveForm d) i m X = Directive (call_of i m.cut d X)
explicit_by (CommentForm cause) i m X = Comment (hanging_part i m.cut false X) cause

-- dots alone: an empty comment before a blank line or the end
abbrev pub dots_alone : ℕ → Marker → Block → Explicit
dots_alone i m X = if is_blank (next_text X) then EmptyComment else Comment (hanging_part i m.cut true X) Plain

-- what dots begin: a comment where nothing is after them, else what the text after them is
unfoldable pub after_dots : ℕ → Marker → Block → Explicit
after_dots i m X = if m.bare then dots_alone i m X else explicit_by (explicit_form (drop m.cut (first_text X))) i m X

-- how many characters a mark has with the spaces after it, 0 where there is none
abbrev pub cut_of : Option Marker → ℕ
cut_of None = 0
cut_of (Some m) = m.cut

-- an anonymous target that begins with two underscores
unfoldable pub anonymous_of : ℕ → Block → Explicit
anonymous_of i X = Anonymous (target_part i (cut_of (underscores (first_text X))) X)

-- explicit markup after dots, or an anonymous target where there are no dots, one of which begins the line
abbrev pub explicit_with : Option Marker → ℕ → Block → Explicit
explicit_with None i X = anonymous_of i X
explicit_with (Some m) i X = after_dots i m X

-- the explicit markup that begins in the line, which is of an explicit kind
unfoldable pub explicit_of : ℕ → Block → Explicit
explicit_of i X = explicit_with (dots (first_text X)) i X

-- ---- where it ends

-- the place after it, where it begins in line i
abbrev pub explicit_end : ℕ → Explicit → ℕ
explicit_end i (Footnote label body) = body.to
explicit_end i (Citation label body) = body.to
explicit_end i (Target name text) = text.to
explicit_end i (Anonymous text) = text.to
explicit_end i (Substitution name embedded end) = end
explicit_end i (Directive call) = call.block.to
explicit_end i (Comment text cause) = text.to
explicit_end i EmptyComment = i + 1

-- how many lines it has: those before its end, where it begins in line 0
unfoldable pub explicit_size : Block → ℕ
explicit_size X = explicit_end 0 (explicit_of 0 X)

-- ---- where its parts are

-- the directive that a substitution definition holds, if there is one, is called in line i
abbrev pub IsEmbedded : Block → ℕ → Option Invocation → Type 0
IsEmbedded B i None = Unit {0}
IsEmbedded B i (Some call) = IsCall B i call

-- the extents of explicit markup that begins in line i are parts of the block, and its labels and names are in the line
abbrev pub IsExplicitIn : Block → ℕ → Explicit → Type 0
IsExplicitIn B i (Footnote label body) = IsPlace (first_text (drop i B)) label × IsBlock B body
IsExplicitIn B i (Citation label body) = IsPlace (first_text (drop i B)) label × IsBlock B body
IsExplicitIn B i (Target name text) = IsPlace (first_text (drop i B)) name × IsBlock B text
IsExplicitIn B i (Anonymous text) = IsBlock B text
IsExplicitIn B i (Substitution name embedded end) = IsPlace (first_text (drop i B)) name × IsEmbedded B i embedded
IsExplicitIn B i (Directive call) = IsCall B i call
IsExplicitIn B i (Comment text cause) = IsBlock B text
IsExplicitIn B i EmptyComment = Unit {0}
