use Rattle.std.proofs.Common.{◌≡◌, ap, not, false, get_or, arith}
use Rattle.std.proofs.lemmas.List.{get_or_read}
use Rattle.rst_inline_scan.specs.Uri.{is_uri_char}
use Rattle.rst_inline_scan.proofs.UriLemmas.{uri_stop-found, uri_stop-end}
use Rattle.rst_inline_scan.proofs.uri.uri_stop.Goals as goal

pub returns-then-not-is_uri_char-clause-exact : goal.returns-then-not-is_uri_char-clause-exact
returns-then-not-is_uri_char-clause-exact c =
    let fails : is_uri_char c.index-text-place.result ≡ false = cc in
    let same = get_or_read c.args.text.now _ _ (omega arith) c.index-text-place.is 0 in
    let here : is_uri_char (get_or c.args.text.now c.loop-place.place 0) ≡ false = cc in
    uri_stop-found c.args.text.now c.args.start c.loop-place.place (omega arith, omega arith, ap not here, λ k above below. ap not (c.loop-place.invariant k above below))

pub returns-clause-exact : goal.returns-clause-exact
returns-clause-exact c = uri_stop-end c.args.text.now c.args.start (λ k above below. ap not (c.loop-place.invariant k above (omega arith)))
