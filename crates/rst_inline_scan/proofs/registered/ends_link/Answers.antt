use Rattle.std.proofs.Common.{sym, arith}
use Rattle.rst_inline_scan.proofs.RegisteredLemmas.{ends_link-past}
use Rattle.rst_inline_scan.proofs.registered.ends_link.Goals as goal

pub returns-then-text-place : goal.returns-then-text-place
returns-then-text-place c = sym (ends_link-past c.args.text.now c.args.place (omega arith))
