use Rattle.std.proofs.Common.{◌≡◌, drop}
use Rattle.rst_markup_directives.specs.Options.{choices_in}
use Rattle.rst_block_nodes.specs.TableOfContents.{is_local}
use Rattle.rst_block_nodes.proofs.contents_table.is_local.Given as goal

abbrev pub invariant-loop-setting : goal.invariant-loop-setting
invariant-loop-setting l = is_local (choices_in (drop l.setting-index l.options)) ≡ is_local (choices_in l.options)
