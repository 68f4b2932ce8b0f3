-- Settings that are made one after the other.
use Rattle.std.proofs.Common.{List, ◌++◌, Result, Ok, Err}
use Rattle.rst_markup_directives.specs.Options.{OptionSetting}
use Rattle.rst_markup_directives.specs.Wrong.{Wrong}

-- choices, and those that come after them if these are right
abbrev pub after_choices : List OptionSetting → Result (List OptionSetting) Wrong → Result (List OptionSetting) Wrong
after_choices done (Ok more) = Ok (done ++ more)
after_choices done (Err wrong) = Err wrong
