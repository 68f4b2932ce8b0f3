use Rattle.std.proofs.Common.{refl}
use Rattle.rst2pseudoxml_run.proofs.Computing.{rst2pseudoxml_run}
use Rattle.rst2pseudoxml_run.proofs.rows.order.transitions_last.Goals as goal

pub returns : goal.returns
unfolding rst2pseudoxml_run
returns c = record {
  after_the_title = refl;
  after_docinfo = refl;
  after_links = refl;
  before_the_last_section = refl;
}
