use Rattle.std.proofs.Common.{refl}
use Rattle.rst_c.proofs.Computing.{rst_c}
use Rattle.rst_c.proofs.rows.ends.Goals as goal

pub returns : goal.returns
unfolding rst_c
returns c = record {
  done = refl;
  halted = refl;
  bad_options = refl;
  bad_source = refl;
  too_long = refl;
  not_utf8 = refl;
  too_deep = refl;
  no_memory = refl;
  no_memory_in_place_of = refl;
  never_in_place_of = refl;
}
