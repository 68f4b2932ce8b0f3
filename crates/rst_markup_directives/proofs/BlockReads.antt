-- A block that is read by its first run of lines.
use Rattle.std.proofs.Common.{◌≡◌, ℕ, Bool, List, length}
use Rattle.rst_settings.specs.declared.Parts.{Parts}
use Rattle.rst_text.specs.Block.{Block, first_parts}
use Rattle.rst_markup_blocks.specs.declared.part.Part.{Part}
use Rattle.rst_markup_directives.specs.Characters.{Text}
use Rattle.rst_markup_directives.specs.Directive.{run_in, directive_by_layout, read_block}
use Rattle.rst_markup_directives.specs.Layout.{layout_at}
use Rattle.rst_markup_directives.specs.Lines.{after_blank}
use Rattle.rst_markup_directives.specs.declared.kind.Kind.{Kind}

pub read-is : (parts : Parts) (kind : Kind) (late : Bool) (block : Part) (H L : Block) (run : List Text) (all m rest : ℕ) → parts ≡ first_parts L → L ≡ H → length L ≡ all → run ≡ run_in kind late L → m ≡ length run
    → rest ≡ after_blank L m → directive_by_layout parts kind block all run (layout_at parts kind run all rest) ≡ read_block kind late block H
unfolding read_block
read-is parts kind late block H L run all m rest on same count texts len place = cc
