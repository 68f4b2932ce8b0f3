use Rattle.std.proofs.Common.{◌≡◌, ◌+◌, ◌-◌, ap, not, Some, None, false, get_or, arith}
use Rattle.std.proofs.lemmas.List.{get_or_read}
use Rattle.rst_text.proofs.PlacesLemmas.{NoneFrom-within}
use Rattle.rst_inline_scan.specs.Uri.{is_uri_trail}
use Rattle.rst_inline_scan.proofs.UriLemmas.{CloseTest, uri_close-is}
use Rattle.rst_inline_scan.proofs.uri.uri_close.Goals as goal

pub returns-then-not-is_uri_trail : goal.returns-then-not-is_uri_trail
returns-then-not-is_uri_trail c =
    let fails : is_uri_trail c.index-text-end.result ≡ false = cc in
    let same = get_or_read c.args.text.now _ _ (omega arith) c.index-text-end.is 0 in
    let here : is_uri_trail (get_or c.args.text.now (c.loop-end.end - 1) 0) ≡ false = cc in
    let below = c.loop-end.invariant.below in
    uri_close-is c.args.text.now c.args.start c.args.stop (Some c.loop-end.end) (omega arith, omega arith, ap not here, c.loop-end.invariant.none)

pub returns : goal.returns
returns c =
    uri_close-is c.args.text.now c.args.start c.args.stop None
    (NoneFrom-within (CloseTest c.args.text.now) (c.loop-end.end + 1) (c.args.stop + 1) (c.args.start + 1) (c.args.stop + 1) (omega arith) (omega arith) c.loop-end.invariant.none)
