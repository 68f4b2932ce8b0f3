use Rattle.std.proofs.Common.{refl}
use Rattle.rst_c.proofs.Computing.{rst_c}
use Rattle.rst_c.proofs.rows.settings.Goals as goal

pub returns : goal.returns
unfolding rst_c
returns c = record {
  usual = record { in_range = refl; report = refl; halt = refl; exit = refl; title = refl; info = refl; tab = refl; limit = refl; parts = refl; handed = refl };
  levels = record { in_range = refl; report = refl; halt = refl; exit = refl; title = refl; info = refl; tab = refl; limit = refl; parts = refl; handed = refl };
  higher_levels = record { in_range = refl; report = refl; halt = refl; exit = refl; title = refl; info = refl; tab = refl; limit = refl; parts = refl; handed = refl };
  no_doc_title = record { in_range = refl; report = refl; halt = refl; exit = refl; title = refl; info = refl; tab = refl; limit = refl; parts = refl; handed = refl };
  no_doc_info = record { in_range = refl; report = refl; halt = refl; exit = refl; title = refl; info = refl; tab = refl; limit = refl; parts = refl; handed = refl };
  profile = record { in_range = refl; report = refl; halt = refl; exit = refl; title = refl; info = refl; tab = refl; limit = refl; parts = refl; handed = refl };
  handed = record { in_range = refl; report = refl; halt = refl; exit = refl; title = refl; info = refl; tab = refl; limit = refl; parts = refl; handed = refl };
}
