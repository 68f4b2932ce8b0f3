use Rattle.std.proofs.Common.{refl}
use Rattle.rst_text.proofs.Computing.{rst_text}
use Rattle.rst_text.proofs.rows.simple_names.Goals as goal

pub returns : goal.returns
unfolding rst_text
returns c = record {
  joined = refl;
  each_joint = refl;
  two_joints = refl;
  leading_joint = refl;
  joint_at_the_end = refl;
  empty = refl;
}
