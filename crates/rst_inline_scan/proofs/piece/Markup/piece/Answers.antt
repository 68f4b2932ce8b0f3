use Rattle.std.proofs.Common.{◌≡◌, true}
use Rattle.rst_inline_scan.specs.Marked.{starts}
use Rattle.rst_inline_scan.proofs.MarkedLemmas.{starts-mark}
use Rattle.rst_inline_scan.proofs.piece.Markup.piece.Goals as goal

pub end-requires-clause-mark : goal.end-requires-clause-mark
end-requires-clause-mark c =
    let begins : starts c.args.self c.args.text.now c.args.place c.start-start.result ≡ true = cc in
    starts-mark c.args.self c.args.text.now c.args.place c.start-start.result begins
