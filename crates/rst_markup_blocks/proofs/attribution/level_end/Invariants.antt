use Rattle.std.proofs.Common.{◌≡◌, ◌+◌, ◌-◌, drop}
use Rattle.std.specs.Prelude.{option_map}
use Rattle.rst_text.specs.Looked.{Looked}
use Rattle.rst_text.specs.ViewBlock.{block_of}
use Rattle.rst_markup_blocks.specs.Attributions.{level_lines}
use Rattle.rst_markup_blocks.specs.Lines.{lines_while}
use Rattle.rst_markup_blocks.specs.declared.lines.LineTest.TheVariants.{Filled}
use Rattle.rst_markup_blocks.proofs.attribution.level_end.Given as goal

abbrev pub invariant-loop-i : goal.invariant-loop-i
invariant-loop-i l = record {
  end : option_map (λ n. l.i + n) (level_lines l.indent (drop l.i (block_of l.view))) ≡ option_map (λ n. l.from + n) (level_lines l.indent (drop l.from (block_of l.view)));
  lines : l.i + lines_while Filled (drop l.i (block_of l.view)) ≡ l.from + lines_while Filled (drop l.from (block_of l.view));
  looked : Looked (l.i - l.from) (l.i - l.from) l.fn.looks l.looks;
}
