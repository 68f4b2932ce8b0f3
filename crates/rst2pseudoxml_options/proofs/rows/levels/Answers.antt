use Rattle.std.proofs.Common.{refl}
use Rattle.rst2pseudoxml_options.proofs.Computing.{rst2pseudoxml_options}
use Rattle.rst2pseudoxml_options.proofs.rows.levels.Goals as goal

pub returns : goal.returns
unfolding rst2pseudoxml_options
returns c = record {
  by_number = refl;
  by_name = refl;
  none = refl;
}
