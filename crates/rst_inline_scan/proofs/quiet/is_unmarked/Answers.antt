use Rattle.rst_inline_scan.proofs.QuietLemmas.{quiet-run}
use Rattle.rst_inline_scan.proofs.quiet.is_unmarked.Goals as goal

pub returns : goal.returns
returns c = quiet-run c.args.text.now c.run_end.result c.run_end.ensures
