use Rattle.std.proofs.Common.{◌≡◌, false, arith}
use Rattle.rst_inline_scan.specs.Mail.{is_in_host}
use Rattle.rst_inline_scan.proofs.MailLemmas.{host_stop-is}
use Rattle.rst_inline_scan.proofs.mail.host_stop.Goals as goal

pub returns-then-not-is_in_host-clause-exact : goal.returns-then-not-is_in_host-clause-exact
returns-then-not-is_in_host-clause-exact c =
    let fails : is_in_host c.args.text.now c.loop-place.place ≡ false = cc in
    host_stop-is c.args.text.now c.args.start c.loop-place.place (record { above = omega arith; within = omega arith; pass = c.loop-place.invariant; stops = λ less. fails })

pub returns-clause-exact : goal.returns-clause-exact
returns-clause-exact c = host_stop-is c.args.text.now c.args.start _ (record { above = c.requires; within = omega arith; pass = λ k above below. c.loop-place.invariant k above (omega arith); stops = λ less. absurd (omega arith) })
