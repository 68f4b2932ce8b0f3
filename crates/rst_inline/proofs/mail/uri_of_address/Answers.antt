use Rattle.std.proofs.lemmas.Result.{IfOk-weaker}
use Rattle.rst_inline.proofs.MailLemmas.{scheme-chars}
use Rattle.rst_inline.proofs.mail.uri_of_address.Goals as goal

pub returns : goal.returns
returns c = IfOk-weaker c.format.result _ _ (λ uri h. scheme-chars uri c.args.address.now c.utf8.address h) c.format.ensures.ok
