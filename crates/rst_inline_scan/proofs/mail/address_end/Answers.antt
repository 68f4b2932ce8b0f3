use Rattle.std.proofs.Common.{◌≡◌, true, false, sym, ◌∙◌}
use Rattle.rst_inline_scan.specs.Mail.{has_at_sign}
use Rattle.rst_inline_scan.proofs.MailLemmas.{no-at_sign, no-host, none-before}
use Rattle.rst_inline_scan.proofs.mail.address_end.Goals as goal

pub returns-then-not-has_at_sign-clause-reach : goal.returns-then-not-has_at_sign-clause-reach
returns-then-not-has_at_sign-clause-reach c found =
    let t = c.args.text.now in
    let stop = c.user_stop-stop.result in
    let none : has_at_sign t stop ≡ false = cc in
    none-before t c.args.start stop c.requires c.user_stop-stop.ensures.exact (no-at_sign t stop none)

pub returns-clause-reach : goal.returns-clause-reach
returns-clause-reach c found =
    let t = c.args.text.now in
    let stop = c.user_stop-stop.result in
    let here : has_at_sign t stop ≡ true = cc in
    none-before t c.args.start stop c.requires c.user_stop-stop.ensures.exact (no-host t stop here (sym c.host_end.ensures ∙ found))
