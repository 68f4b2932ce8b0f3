use Rattle.std.proofs.Common.{◌≡◌, Some, false}
use Rattle.rst_inline_scan.specs.Characters.{is_free_after}
use Rattle.rst_inline_scan.specs.Uri.{scheme_end, uri_stop, uri_close}
use Rattle.rst_inline_scan.proofs.UriLemmas.{none-inside}
use Rattle.rst_inline_scan.proofs.uri.uri_end.Goals as goal

pub returns-else-is_free_after-clause-reach : goal.returns-else-is_free_after-clause-reach
returns-else-is_free_after-clause-reach c none =
    let scheme : scheme_end c.args.text.now c.args.start ≡ Some c.in-Some.after_scheme = cc in
    let close : uri_close c.args.text.now c.in-Some.after_scheme (uri_stop c.args.text.now c.in-Some.after_scheme) ≡ Some c.in-Some-uri_close.end = cc in
    let stuck : is_free_after c.args.text.now c.in-Some-uri_close.end ≡ false = cc in
    none-inside c.args.text.now c.args.start c.in-Some.after_scheme c.in-Some-uri_close.end c.requires scheme close stuck
