use Rattle.std.proofs.Common.{refl}
use Rattle.rst2pseudoxml_run.proofs.Computing.{rst2pseudoxml_run}
use Rattle.rst2pseudoxml_run.proofs.rows.refusals.nesting.Goals as goal

pub returns : goal.returns
unfolding rst2pseudoxml_run
returns c = record {
  two_hundred_and_fifty_levels = refl;
  empty_item_in_these = refl;
  one_level_more = refl;
  two_levels_where_one_is_allowed = refl;
}
