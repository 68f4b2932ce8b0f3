use Rattle.std.proofs.Common.{refl}
use Rattle.rst2pseudoxml_run.proofs.Computing.{rst2pseudoxml_run}
use Rattle.rst2pseudoxml_run.proofs.rows.lines.white.Goals as goal

pub returns : goal.returns
unfolding rst2pseudoxml_run
returns c = record {
  vertical_tab_and_form_feed = refl;
  at_the_end = refl;
  tab_after_a_wide_character = refl;
}
