use Rattle.std.proofs.Common.{◌≡◌, false, arith}
use Rattle.rst_inline_scan.specs.Registered.{is_uric_at}
use Rattle.rst_inline_scan.proofs.RegisteredLemmas.{uric_stop-is}
use Rattle.rst_inline_scan.proofs.registered.uric_stop.Goals as goal

pub returns-then-not-is_uric_at-clause-exact : goal.returns-then-not-is_uric_at-clause-exact
returns-then-not-is_uric_at-clause-exact c =
    let fails : is_uric_at c.args.text.now c.loop-place.place ≡ false = cc in
    uric_stop-is c.args.text.now c.args.start c.loop-place.place (record { above = omega arith; within = omega arith; pass = c.loop-place.invariant; stops = λ less. fails })

pub returns-clause-exact : goal.returns-clause-exact
returns-clause-exact c = uric_stop-is c.args.text.now c.args.start _ (record { above = c.requires; within = omega arith; pass = λ k above below. c.loop-place.invariant k above (omega arith); stops = λ less. absurd (omega arith) })
