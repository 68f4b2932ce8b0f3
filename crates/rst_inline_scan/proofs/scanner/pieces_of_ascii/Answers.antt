use Rattle.std.proofs.Common.{◌≡◌, ◌∙◌, false, sym, ap}
use Rattle.std.proofs.lemmas.Result.{IfOk-weaker}
use Rattle.rst_inline_scan.specs.Quiet.{may_hold_links}
use Rattle.rst_inline_scan.proofs.AskedLemmas.{asked-pieces}
use Rattle.rst_inline_scan.proofs.scanner.pieces_of_ascii.Goals as goal

pub returns : goal.returns
returns c =
    let t = c.args.text.now in
    let none : may_hold_links c.args.mail c.args.registered t ≡ false =
    ap (may_hold_links c.args.mail c.args.registered) (sym c.requires) ∙ sym c.may_hold_links_ascii.ensures ∙ c.if-may_hold_links_ascii.false in
    IfOk-weaker c.pieces_by.result _ _ (λ pieces h. asked-pieces c.args.mail c.args.registered t pieces.items none h) c.pieces_by.ensures
