-- Marks of explicit markup (Markup Specification, 'Explicit Markup Blocks', 'Footnotes', 'Citations', 'Hyperlink
-- Targets', 'Directives', 'Substitution Definitions').
use Rattle.std.specs.Prelude.{ℕ, ◌+◌, Bool, not, ◌&&◌, ◌||◌, ◌==◌, List, take, drop, if◌then◌else◌, Option, None, Some}
use Rattle.std.specs.List.{list_all}
use Rattle.std.specs.Option.{option_and_then}
use Rattle.rst_text.specs.Block.{is_blank}
use Rattle.rst_text.specs.Characters.{is_white}
use Rattle.rst_text.specs.SimpleNames.{simple_name, is_simple_name}
use Rattle.rst_markup_lines.specs.TextStart.{begins_by, begins_with}
use Rattle.rst_markup_lines.specs.Class.{is_in, run}
use Rattle.rst_markup_lines.specs.Closing.{closed}
use Rattle.rst_markup_lines.specs.Marker.{marker_of}
use Rattle.rst_markup_lines.specs.declared.class.Class.TheVariants.{Digit, Unbracketed}
use Rattle.rst_markup_lines.specs.declared.closing.Closing.TheVariants.{Colon, QuotedColon, Bar, SpacedBar}
use Rattle.rst_markup_lines.specs.declared.marker.Marker.{Marker}
use Rattle.rst_markup_lines.specs.declared.explicit_marks.LabelKind.{LabelKind}
use Rattle.rst_markup_lines.specs.declared.explicit_marks.LabelKind.TheVariants.{Footnote, Citation}
use Rattle.rst_markup_lines.specs.declared.explicit_marks.LabelMark.{LabelMark}
use Rattle.rst_markup_lines.specs.declared.explicit_marks.TargetMark.{TargetMark}
use Rattle.rst_markup_lines.specs.declared.explicit_marks.TargetMark.TheVariants.{Named, Anonymous}
use Rattle.rst_markup_lines.specs.declared.explicit_marks.SubstitutionMark.{SubstitutionMark}
use Rattle.rst_markup_lines.specs.declared.explicit_marks.SubstitutionMark.TheVariants.{Named as NamedSubstitution, Unclosed, Tight}
use Rattle.rst_markup_lines.specs.declared.explicit_marks.DirectiveMark.{DirectiveMark}

-- the mark of explicit markup: `..` with spaces or the end after it
unfoldable pub dots : List ℕ → Option Marker
dots t = if begins_with 46 t && begins_with 46 (drop 1 t) then marker_of 2 t else None

-- the mark of an anonymous target: `__` with spaces or the end after it
unfoldable pub underscores : List ℕ → Option Marker
underscores t = if begins_with 95 t && begins_with 95 (drop 1 t) then marker_of 2 t else None

-- what a label labels: digits, `*`, `#`, and `#` before a simple name a footnote, another simple name a citation
unfoldable pub label_kind : List ℕ → Option LabelKind
label_kind label =
    if is_blank label then None
    else if list_all (is_in Digit) label then Some Footnote
    else if begins_with 42 label && is_blank (drop 1 label) then Some Footnote
    else if begins_with 35 label && (is_blank (drop 1 label) || is_simple_name (drop 1 label)) then Some Footnote
    else if is_simple_name label then Some Citation
    else None

-- a label of this kind, of n characters between brackets, if spaces or the end are after them
abbrev pub labelled : ℕ → List ℕ → LabelKind → Option LabelMark
labelled n t k = option_and_then (λ m. Some (record { kind = k; len = n; marker = m })) (marker_of (n + 2) t)

-- the label of n characters between brackets
abbrev pub label_by : ℕ → List ℕ → Option LabelMark
label_by n t = if begins_with 93 (drop n (drop 1 t)) then option_and_then (labelled n t) (label_kind (take n (drop 1 t))) else None

-- the label of a footnote or a citation: what is between `[` and the first `]`
unfoldable pub label_of : List ℕ → Option LabelMark
label_of t = if begins_with 91 t then label_by (run Unbracketed (drop 1 t)) t else None

-- a text begins with a white character
abbrev pub begins_white : List ℕ → Bool
begins_white t = begins_by is_white t

-- n characters after `from` others are the name of a target whose mark has `len` characters, if it isn't empty and doesn't
-- begin wrongly
abbrev pub named_if : Bool → ℕ → ℕ → ℕ → List ℕ → Option TargetMark
named_if wrong from n len t = if n == 0 || wrong then None else option_and_then (λ m. Some (Named from n m)) (marker_of len t)

-- a name in backquotes, which isn't empty and doesn't begin with white or a backquote
unfoldable pub quoted_target : List ℕ → Option TargetMark
quoted_target t = option_and_then (λ n. named_if (begins_white (drop 2 t) || begins_with 96 (drop 2 t)) 2 n (n + 4) t) (closed QuotedColon (drop 2 t))

-- a name, which isn't empty and doesn't begin with white
unfoldable pub plain_target : List ℕ → Option TargetMark
plain_target t = option_and_then (λ n. named_if (begins_white (drop 1 t)) 1 n (n + 2) t) (closed Colon (drop 1 t))

-- an anonymous target: a colon after its two underscores, and spaces or the end after that
unfoldable pub anonymous_target : List ℕ → Option TargetMark
anonymous_target t = if begins_with 58 (drop 2 t) then option_and_then (λ m. Some (Anonymous m)) (marker_of 3 t) else None

-- `__:`, `` _`name`: `` or `_name:`
unfoldable pub target_of : List ℕ → Option TargetMark
target_of t =
    if begins_with 95 t then (if begins_with 95 (drop 1 t) then anonymous_target t
    else if begins_with 96 (drop 1 t) then quoted_target t
    else plain_target t)
    else None

-- a substitution definition without a name: its closing bar is missing, or no space is after it
abbrev pub closing_bar : Option ℕ → SubstitutionMark
closing_bar None = Unclosed
closing_bar (Some n) = Tight

-- a substitution definition with the n characters between its bars as its name, or one without a name where no closing
-- bar has a space after it
abbrev pub spaced_bar : List ℕ → Option ℕ → Option SubstitutionMark
spaced_bar t None = Some (closing_bar (closed Bar (drop 1 t)))
spaced_bar t (Some n) = option_and_then (λ m. Some (NamedSubstitution n m)) (marker_of (n + 2) t)

-- a name between bars: the closing one is the first unescaped with a character before it that isn't white, and a space
-- after it
unfoldable pub substitution_of : List ℕ → Option SubstitutionMark
substitution_of t =
    if begins_with 124 t then (if is_blank (drop 1 t) || begins_white (drop 1 t) then None else spaced_bar t (closed SpacedBar (drop 1 t)))
    else None

-- two colons after n characters, of which the first `len` are a directive's name
unfoldable pub colons : ℕ → ℕ → List ℕ → Option DirectiveMark
colons len n t =
    if not (begins_with 58 (drop n t)) || not (begins_with 58 (drop (n + 1) t)) then None
    else option_and_then (λ m. Some (record { len = len; marker = m })) (marker_of (n + 2) t)

-- a simple name of n characters and two colons, between which one space may be there if `spaced` is true
abbrev pub directive_mark_by : Bool → ℕ → List ℕ → Option DirectiveMark
directive_mark_by spaced n t =
    if n == 0 then None
    else if spaced && begins_with 32 (drop n t) then colons n (n + 1) t
    else colons n n t

-- The mark of a directive: a simple name and `::` with spaces or the end after it. A space may be between the two if
-- `spaced` is true, as it is except in substitution definitions.
unfoldable pub directive_mark_of : Bool → List ℕ → Option DirectiveMark
directive_mark_of spaced t = directive_mark_by spaced (simple_name t) t
