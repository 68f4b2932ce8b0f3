use Rattle.std.proofs.Common.{refl}
use Rattle.rst_c.proofs.Computing.{rst_c}
use Rattle.rst_c.proofs.rows.options.Goals as goal

pub returns : goal.returns
unfolding rst_c
returns c = record {
  usual = refl;
  least = refl;
  most = refl;
  size = refl;
  report = refl;
  halt = refl;
  exit_status = refl;
  tab_width = refl;
  line_length_limit = refl;
  no_doc_title = refl;
  no_doc_info = refl;
  profile = refl;
  unused = refl;
}
