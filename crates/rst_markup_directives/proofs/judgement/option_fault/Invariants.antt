use Rattle.std.proofs.Common.{◌≡◌, drop}
use Rattle.rst_markup_directives.specs.Judgement.{option_fault}
use Rattle.rst_markup_directives.specs.Options.{choices_in}
use Rattle.rst_markup_directives.proofs.judgement.option_fault.Given as goal

abbrev pub invariant-loop-setting : goal.invariant-loop-setting
invariant-loop-setting l = option_fault l.titled (choices_in (drop l.setting-index l.options)) ≡ option_fault l.titled (choices_in l.options)
