use Rattle.std.proofs.Common.{◌∙◌, length, sym, arith}
use Rattle.std.proofs.lemmas.Bool.{le-ltb}
use Rattle.rst_inline_scan.proofs.RegisteredLemmas.{is_uric_at-past}
use Rattle.rst_inline_scan.proofs.registered.is_uric_at.Goals as goal

pub returns-else-place-text : goal.returns-else-place-text
returns-else-place-text c = le-ltb c.args.place (length c.args.text.now) (omega arith) ∙ sym (is_uric_at-past c.args.text.now c.args.place (omega arith))
