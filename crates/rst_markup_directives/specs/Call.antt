-- Directives as they are called (Markup Specification, 'Directives').
use Rattle.std.specs.Prelude.{ℕ, ◌+◌, ◌-◌, Bool, ◌&&◌, ◌==◌, drop, slice_range, Option, if◌then◌else◌}
use Rattle.rst_text.specs.Block.{Block, first_text, first_parts}
use Rattle.rst_markup_directives.specs.Characters.{Text}
use Rattle.rst_markup_directives.specs.Kind.{directive_named, kept_columns}
use Rattle.rst_markup_directives.specs.declared.argument.Argument.{Argument}
use Rattle.rst_markup_directives.specs.declared.argument.Argument.TheVariants.{Title}
use Rattle.rst_markup_directives.specs.declared.found.Content.{Content}
use Rattle.rst_markup_directives.specs.declared.found.Directive.{Directive}
use Rattle.rst_markup_directives.specs.declared.found.Directive.TheVariants.{Found, Handed, Wrong}
use Rattle.rst_markup_directives.specs.declared.layout.Layout.{Layout}
use Rattle.rst_markup_directives.specs.declared.kind.ContentKind.{ContentKind}
use Rattle.rst_markup_directives.specs.declared.kind.Kind.{Kind}
use Rattle.rst_markup_blocks.specs.Parts.{IsBlock}
use Rattle.rst_markup_blocks.specs.declared.forms.Invocation.{Invocation}
use Rattle.rst_markup_blocks.specs.declared.part.Part.{Part}

-- the name that a directive is called by
abbrev pub name_text : Block → ℕ → Invocation → Text
name_text B at call = slice_range (first_text (drop at B)) call.name.from call.name.to

-- the directive that is called; `code` is true if the one for program code is among them
abbrev pub called_at : Bool → Block → ℕ → Invocation → Option Kind
called_at code B at call = directive_named (first_parts (drop at B)) (name_text B at call) code

-- lines of a block as a part of what the block is a part of; the block's first line may lose another number of characters than the others
abbrev pub part_of : Part → ℕ → ℕ → Part
part_of block from to = record { from = block.from + from; to = block.from + to; first_cut = if from == 0 then block.first_cut else block.rest_cut; rest_cut = block.rest_cut }

-- the block of a directive as its content has it, which may keep some columns of the indentation
abbrev pub content_block : ContentKind → Part → Part
content_block content block = record block { first_cut = block.first_cut - kept_columns content; rest_cut = block.rest_cut - kept_columns content }

-- the two parts of a directive's content: before its options, and after them
abbrev pub content_of : Part → Layout → ℕ → Content
content_of block layout all = record { first = part_of block 0 layout.first; second = part_of block layout.second all }

-- no part of the content has a line
abbrev pub is_empty : Content → Bool
is_empty content = content.first.from == content.first.to && content.second.from == content.second.to

-- ---- parts of a block

-- the content of a directive
abbrev pub IsContentIn : Block → Content → Type 0
IsContentIn B content = IsBlock B content.first × IsBlock B content.second

-- the argument of a directive
abbrev pub IsArgumentIn : Block → Argument → Type 0
IsArgumentIn B (Title part) = IsBlock B part
IsArgumentIn B argument = Unit {0}

-- the parts of a directive are those of a block
abbrev pub IsDirectiveIn : Block → Directive → Type 0
IsDirectiveIn B (Found kind argument options content) = IsArgumentIn B argument × IsContentIn B content
IsDirectiveIn B Handed = Unit {0}
IsDirectiveIn B (Wrong fault source) = Unit {0}
