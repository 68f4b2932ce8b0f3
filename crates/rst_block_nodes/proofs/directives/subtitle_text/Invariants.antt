use Rattle.std.proofs.Common.{◌≡◌, drop}
use Rattle.rst_markup_directives.specs.Options.{choices_in}
use Rattle.rst_block_nodes.specs.Options.{subtitle_chosen}
use Rattle.rst_block_nodes.proofs.directives.subtitle_text.Given as goal

abbrev pub invariant-loop-setting : goal.invariant-loop-setting
invariant-loop-setting l = subtitle_chosen (choices_in (drop l.setting-index l.options)) ≡ subtitle_chosen (choices_in l.options)
