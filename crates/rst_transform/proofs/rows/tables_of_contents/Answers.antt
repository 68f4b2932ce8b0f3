use Rattle.std.proofs.Common.{refl}
use Rattle.rst_transform.proofs.Computing.{rst_transform}
use Rattle.rst_transform.proofs.rows.tables_of_contents.Goals as goal

pub returns : goal.returns
unfolding rst_transform
returns c = record {
  before_references = refl;
}
