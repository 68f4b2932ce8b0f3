use Rattle.std.proofs.Common.{refl}
use Rattle.rst2pseudoxml_options.proofs.Computing.{rst2pseudoxml_options}
use Rattle.rst2pseudoxml_options.proofs.rows.settings.Goals as goal

pub returns : goal.returns
unfolding rst2pseudoxml_options
returns c = record {
  none = refl;
  report = refl;
  verbose = refl;
  quiet = refl;
  halt = refl;
  strict = refl;
  exit_status = refl;
  no_doc_title = refl;
  no_doc_info = refl;
  tab_width = refl;
  line_length_limit = refl;
  verbose_with_strict = refl;
  all = refl;
}
