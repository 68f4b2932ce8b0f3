use Rattle.std.proofs.Common.{refl}
use Rattle.rst2pseudoxml_options.proofs.Computing.{rst2pseudoxml_options}
use Rattle.rst2pseudoxml_options.proofs.rows.tree.Goals as goal

pub returns : goal.returns
unfolding rst2pseudoxml_options
returns c = record {
  none = refl;
  base = refl;
  docutils = refl;
  json = refl;
  pseudoxml = refl;
  source = refl;
  hyphen = refl;
  dashed = refl;
  level = refl;
  numbers = refl;
}
