use Rattle.std.proofs.Common.{sym, arith}
use Rattle.rst_text.proofs.SimpleNameLemmas.{not_simple, simple-where}
use Rattle.rst_text.proofs.simple_names.is_simple_name.Goals as goal

pub returns-then-not-is_name_at : goal.returns-then-not-is_name_at
returns-then-not-is_name_at c = sym (not_simple c.args.text.now c.loop-place.place (omega arith) (cc))

pub returns : goal.returns
returns c = simple-where c.args.text.now c.loop-place.place (omega arith) c.loop-place.invariant
