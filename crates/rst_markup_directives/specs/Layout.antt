-- Where the parts of a directive's block are (Markup Specification, 'Directives'). A part is given by the places of the lines
-- that it begins and ends at.
use Rattle.std.specs.Prelude.{ℕ, Bool, not, ◌&&◌, ◌==◌, nat_lt, List, length, if◌then◌else◌}
use Rattle.std.specs.List.{prefix_len}
use Rattle.std.specs.Option.{is_some}
use Rattle.rst_settings.specs.declared.Parts.{Parts}
use Rattle.rst_text.specs.Block.{Block, first_parts}
use Rattle.rst_markup_lines.specs.Field.{field_of}
use Rattle.rst_markup_directives.specs.Characters.{Text}
use Rattle.rst_markup_directives.specs.Kind.{is_text}
use Rattle.rst_markup_directives.specs.Lines.{after_blank}
use Rattle.rst_markup_directives.specs.declared.layout.Layout.{Layout}
use Rattle.rst_markup_directives.specs.declared.kind.Kind.{Kind}
use Rattle.rst_markup_directives.specs.declared.kind.ArgumentKind.{ArgumentKind}
use Rattle.rst_markup_directives.specs.declared.kind.ArgumentKind.TheVariants.{Absent, Classes}
use Rattle.rst_markup_directives.specs.declared.kind.ContentKind.{ContentKind}
use Rattle.rst_markup_directives.specs.declared.kind.ContentKind.TheVariants.{Paragraph, Quotes}

-- a line begins a field (Markup Specification, 'Field Lists')
unfoldable pub begins_field : Parts → Text → Bool
begins_field parts t = is_some (field_of parts t)

-- how many lines come before the first that begins a field: the place where the options begin
abbrev pub before_field : Parts → List Text → ℕ
before_field parts ts = prefix_len (λ t. not (begins_field parts t)) ts

-- A block of `all` lines that is content alone: its first part is the whole block, and the second is empty. The options, of
-- which there are none, begin where the run of lines ends.
abbrev pub content_alone : List Text → ℕ → Layout
content_alone run all = record { argument = 0; first = all; options = length run; second = all }

-- A block without an argument: the lines before the options are content, and so are those from `rest` on. Without options it
-- is content alone.
abbrev pub parts_without_argument : Parts → List Text → ℕ → ℕ → Layout
parts_without_argument parts run all rest =
    if before_field parts run == length run then content_alone run all
    else record { argument = 0; first = before_field parts run; options = before_field parts run; second = rest }

-- A block by the content and the argument that its directive takes: a paragraph alone, block quotes and class names that have to be there leave no room
-- for options, and another argument ends where the options begin. The blank lines between the two parts of a text belong to it.
abbrev pub layout_by : Parts → ContentKind → ArgumentKind → List Text → ℕ → ℕ → Layout
layout_by parts Paragraph argument run all rest = content_alone run all
layout_by parts (Quotes class) argument run all rest = content_alone run all
layout_by parts content Absent run all rest = parts_without_argument parts run all (if is_text content && nat_lt 0 (before_field parts run) then length run else rest)
layout_by parts _ Classes run all rest = record { argument = length run; first = 0; options = length run; second = rest }
layout_by parts _ _ run all rest = record { argument = before_field parts run; first = 0; options = before_field parts run; second = rest }

-- the parts of a block of `all` lines that begins with this run; `rest` is the place of the first line after the run that
-- isn't blank
unfoldable pub layout_at : Parts → Kind → List Text → ℕ → ℕ → Layout
layout_at parts kind run all rest = layout_by parts kind.content kind.argument run all rest

-- The parts of a block that begins with this run of lines, which hold the argument and the options: the argument up to the
-- first option, the options up to the end of the run, and the content after the blank lines after it.
abbrev pub layout_of : Kind → List Text → Block → Layout
layout_of kind run H = layout_at (first_parts H) kind run (length H) (after_blank H (length run))
