use Rattle.std.proofs.Common.{refl}
use Rattle.rst2pseudoxml_run.proofs.Computing.{rst2pseudoxml_run}
use Rattle.rst2pseudoxml_run.proofs.rows.order.links.Goals as goal

pub returns : goal.returns
unfolding rst2pseudoxml_run
returns c = record {
  anonymous_before_indirect = refl;
  anonymous_through_indirect = refl;
  indirect_before_symbols = refl;
  indirect_before_footnotes = refl;
  anonymous_before_footnotes = refl;
  anonymous_before_names = refl;
}
