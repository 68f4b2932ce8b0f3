use Rattle.std.proofs.Common.{◌≡◌, sym, false, arith}
use Rattle.rst_inline_scan.specs.Words.{goes_on}
use Rattle.rst_inline_scan.proofs.WordLemmas.{no-piece}
use Rattle.rst_inline_scan.proofs.scanner.piece_at.Goals as goal

pub returns-then-not-goes_on-clause-exact : goal.returns-then-not-goes_on-clause-exact
returns-then-not-goes_on-clause-exact c from known =
    let stops : goes_on c.args.text.now c.args.end ≡ false = cc in
    sym (no-piece c.args.text.now from c.args.place c.args.end c.requires.word (omega arith) stops)
