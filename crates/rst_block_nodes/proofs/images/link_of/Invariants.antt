use Rattle.std.proofs.Common.{◌≡◌, drop}
use Rattle.rst_markup_directives.specs.Options.{choices_in}
use Rattle.rst_block_nodes.specs.Options.{link_chosen}
use Rattle.rst_block_nodes.proofs.images.link_of.Given as goal

abbrev pub invariant-loop-setting : goal.invariant-loop-setting
invariant-loop-setting l = link_chosen (choices_in (drop l.setting-index l.options)) ≡ link_chosen (choices_in l.options)
