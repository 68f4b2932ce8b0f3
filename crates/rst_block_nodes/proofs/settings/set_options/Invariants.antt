use Rattle.std.proofs.Common.{◌≡◌, drop}
use Rattle.rst_markup_directives.specs.Options.{choices_in}
use Rattle.rst_block_nodes.specs.Options.{with_choices}
use Rattle.rst_block_nodes.proofs.settings.set_options.Given as goal

abbrev pub invariant-loop-setting : goal.invariant-loop-setting
invariant-loop-setting l =
    with_choices l.holder (choices_in (drop l.setting-index l.options)) l.attrs ≡ with_choices l.holder (choices_in l.options) l.initial.attrs
