use Rattle.std.proofs.Common.{◌≡◌, rules}
use Rattle.clap.specs.Words.{app_of}
use Rattle.rst2pseudoxml_options.specs.Command.{program}
use Rattle.rst2pseudoxml_options.proofs.CommandLemmas.{finds}
use Rattle.rst2pseudoxml_options.proofs.found.matches_of.Goals as goal

pub returns : goal.returns
returns c =
    let app : app_of c.in_ok-program.field-0 ≡ program = search rules in
    finds _ _ c.try_get_matches_from.result app c.try_get_matches_from.ensures.kinds c.try_get_matches_from.ensures.matches
