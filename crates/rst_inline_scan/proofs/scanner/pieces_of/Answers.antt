use Rattle.std.proofs.Common.{◌≡◌, ◌++◌, ◌∙◌, false, sym, ap, map, append-nil, arith}
use Rattle.std.proofs.lemmas.List.{at_drop_all}
use Rattle.std.proofs.lemmas.Result.{IfOk-weaker}
use Rattle.rst_inline_scan.specs.Quiet.{may_hold_links}
use Rattle.rst_inline_scan.proofs.AskedLemmas.{asked-pieces}
use Rattle.rst_inline_scan.specs.Calm.{byte_of}
use Rattle.rst_inline_scan.proofs.CalmLemmas.{bytes-of_bytes}
use Rattle.rst_inline_scan.proofs.scanner.pieces_of.Goals as goal

pub pieces_by-requires : goal.pieces_by-requires
pieces_by-requires c =
    let t = c.args.text.now in
    let all = at_drop_all (λ rest. c.loop-c.bytes.items ++ map byte_of rest) t c.loop-c.c-index (omega arith) in
    let made : c.loop-c.bytes.items ≡ map byte_of t = sym (append-nil c.loop-c.bytes.items) ∙ sym all ∙ c.loop-c.invariant.all in
    ap (map byte_of) (c.deref.ensures.value ∙ made) ∙ bytes-of_bytes t

pub returns : goal.returns
returns c =
    let t = c.args.text.now in
    let none : may_hold_links c.args.mail c.args.registered t ≡ false = sym c.may_hold_links.ensures ∙ c.if-may_hold_links.false in
    IfOk-weaker c.pieces_by.result _ _ (λ pieces h. asked-pieces c.args.mail c.args.registered t pieces.items none h) c.pieces_by.ensures
