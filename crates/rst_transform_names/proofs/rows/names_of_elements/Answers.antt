use Rattle.std.proofs.Common.{refl}
use Rattle.rst_transform_names.proofs.Computing.{rst_transform_names}
use Rattle.rst_transform_names.proofs.rows.names_of_elements.Goals as goal

pub returns : goal.returns
unfolding rst_transform_names
returns c = record {
  of_a_section = refl;
  of_a_footnote = refl;
  one_uri = refl;
  two_uris = refl;
  no_uri = refl;
}
