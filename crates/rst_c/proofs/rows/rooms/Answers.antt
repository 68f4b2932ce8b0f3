use Rattle.std.proofs.Common.{refl}
use Rattle.rst_c.proofs.Computing.{rst_c}
use Rattle.rst_c.proofs.rows.rooms.Goals as goal

pub returns : goal.returns
unfolding rst_c
returns c = record {
  larger = refl;
  exact = refl;
  too_small = refl;
  none = refl;
  nothing_to_put = refl;
  tree = refl;
  messages = refl;
  tree_too_large = refl;
  messages_beside_it = refl;
  refused = refl;
  refused_messages = refl;
}
