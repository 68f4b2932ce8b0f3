use Rattle.std.proofs.Common.{refl}
use Rattle.rst2pseudoxml_options.proofs.Computing.{rst2pseudoxml_options}
use Rattle.rst2pseudoxml_options.proofs.rows.tree_refusals.Goals as goal

pub returns : goal.returns
unfolding rst2pseudoxml_options
returns c = record {
  help = refl;
  version = refl;
  unknown = refl;
  second = refl;
  level = refl;
  profile = refl;
  format = refl;
  no_value = refl;
  tab = refl;
  limit = refl;
  leading_zero = refl;
  twice = refl;
  two_levels = refl;
}
