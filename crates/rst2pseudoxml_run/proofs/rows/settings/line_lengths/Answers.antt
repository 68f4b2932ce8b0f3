use Rattle.std.proofs.Common.{refl}
use Rattle.rst2pseudoxml_run.proofs.Computing.{rst2pseudoxml_run}
use Rattle.rst2pseudoxml_run.proofs.rows.settings.line_lengths.Goals as goal

pub returns : goal.returns
unfolding rst2pseudoxml_run
returns c = record {
  as_long_as_allowed = refl;
  one_character_more = refl;
  second_line = refl;
}
