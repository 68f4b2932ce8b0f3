-- Explicit markup blocks (Markup Specification, 'Explicit Markup Blocks').
use Rattle.std.specs.Prelude.{ℕ, ◌+◌, min, Bool, true, List, [], ◌∷◌, drop, take, if◌then◌else◌, Option, None, Some, option_map, unwrap_or}
use Rattle.std.specs.Option.{option_and_then}
use Rattle.rst_text.specs.Block.{Block}
use Rattle.rst_text.specs.Extent.{extent, least_indent}
use Rattle.rst_markup_lines.specs.TextStart.{begins_with}
use Rattle.rst_markup_lines.specs.ExplicitMarks.{label_of, target_of, substitution_of, directive_mark_of}
use Rattle.rst_markup_lines.specs.declared.explicit_marks.SubstitutionMark.{SubstitutionMark}
use Rattle.rst_markup_lines.specs.declared.explicit_marks.SubstitutionMark.TheVariants.{Named, Unclosed}
use Rattle.rst_markup_blocks.specs.declared.forms.CommentCause.{CommentCause}
use Rattle.rst_markup_blocks.specs.declared.forms.CommentCause.TheVariants.{Plain, MalformedTarget, MalformedSubstitution}
use Rattle.rst_markup_blocks.specs.declared.explicit_markup.ExplicitForm.{ExplicitForm}
use Rattle.rst_markup_blocks.specs.declared.explicit_markup.ExplicitForm.TheVariants.{Label, Target, Substitution, Directive, Comment}
use Rattle.rst_markup_blocks.specs.declared.lines.LineTest.TheVariants.{Blank}
use Rattle.rst_markup_blocks.specs.declared.part.Part.{Part}
use Rattle.rst_markup_blocks.specs.Lines.{lines_while}
use Rattle.rst_markup_blocks.specs.Sizes.{hanging_size}

-- what begins like a substitution definition and has no closing bar is a malformed one
abbrev pub cause_by : Option SubstitutionMark → CommentCause
cause_by (Some Unclosed) = MalformedSubstitution
cause_by _ = Plain

-- why a text that has no other form is a comment
unfoldable pub comment_cause : List ℕ → CommentCause
comment_cause t = if begins_with 95 t then MalformedTarget else cause_by (substitution_of t)

-- a substitution definition has a name, and a mark after it
abbrev pub substitution_form : SubstitutionMark → Option ExplicitForm
substitution_form (Named len marker) = Some (Substitution len marker)
substitution_form _ = None

-- the rows of explicit markup in order, each with the form of the text after the marker, if that fits: a footnote or a citation, a
-- target, a substitution definition, a directive
abbrev pub explicit_rows : List ℕ → List (Option ExplicitForm)
explicit_rows t =
    option_map (λ l. Label l) (label_of t)
    ∷ option_map (λ m. Target m) (target_of t)
    ∷ option_and_then substitution_form (substitution_of t)
    ∷ option_map (λ d. Directive d) (directive_mark_of true t)
    ∷ []

-- the first of some forms that is there, or another form where none is
abbrev pub first_form : List (Option ExplicitForm) → ExplicitForm → ExplicitForm
first_form [] other = other
first_form (row ∷ rows) other = unwrap_or row (first_form rows other)

-- the first form that fits the text after the marker, or else a comment
unfoldable pub explicit_form : List ℕ → ExplicitForm
explicit_form t = first_form (explicit_rows t) (Comment (comment_cause t))

-- the least indentation of the indented block at the front of lines, 0 where there is none
abbrev pub least_of : Block → ℕ
least_of ls = least_indent (take (extent 1 ls) ls)

-- The block of markup whose first line, at place i, X begins with: what follows its mark, and the indented block
-- below. Where nothing follows the mark, it is that block alone, from its first line that isn't blank on.
unfoldable pub hanging_part : ℕ → ℕ → Bool → Block → Part
hanging_part i cut bare X =
    if bare then record { from = i + 1 + min (lines_while Blank (drop 1 X)) (extent 1 (drop 1 X)); to = i + hanging_size X; first_cut = least_of (drop 1 X); rest_cut = least_of (drop 1 X) }
    else record { from = i; to = i + hanging_size X; first_cut = cut; rest_cut = least_of (drop 1 X) }
