use Rattle.std.proofs.Common.{◌∙◌, sym, ap}
use Rattle.rst_inline_scan.specs.Mail.{holds_at_sign}
use Rattle.rst_inline.proofs.MailLemmas.{no-mailto}
use Rattle.rst_inline.proofs.mail.mailto.Goals as goal

pub returns-then-not-contains : goal.returns-then-not-contains
returns-then-not-contains c =
    let none = sym (ap holds_at_sign c.as_bytes.ensures.value) ∙ sym c.contains.ensures.value ∙ c.if-not-contains.true in
    sym (no-mailto c.args.text.now c.utf8.text none)
