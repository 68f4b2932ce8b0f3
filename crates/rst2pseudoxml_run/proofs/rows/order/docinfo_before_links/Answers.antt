use Rattle.std.proofs.Common.{refl}
use Rattle.rst2pseudoxml_run.proofs.Computing.{rst2pseudoxml_run}
use Rattle.rst2pseudoxml_run.proofs.rows.order.docinfo_before_links.Goals as goal

pub returns : goal.returns
unfolding rst2pseudoxml_run
returns c = record {
  message_on_a_field_first = refl;
  reference_in_the_name_of_a_field = refl;
}
