use Rattle.std.proofs.Common.{refl}
use Rattle.rst_transform.proofs.Computing.{rst_transform}
use Rattle.rst_transform.proofs.rows.messages.Goals as goal

pub returns : goal.returns
unfolding rst_transform
returns c = record {
  of_the_document_first = refl;
  in_the_last_section = refl;
}
