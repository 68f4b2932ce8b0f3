use Rattle.std.proofs.Common.{◌↔◌, IsTrue, subst}
use Rattle.std.specs.Str.{chars}
use Rattle.rst_inline_scan.specs.Uri.{IsUri}
use Rattle.rst_inline_scan.proofs.UriLemmas.{plain-bytes}
use Rattle.rst_inline_scan.proofs.uri.plain_uri.Goals as goal

pub returns : goal.returns
returns c =
    subst (λ t. IsTrue c.is_ascii_uri.result ↔ IsUri (chars t)) c.as_bytes.ensures.value
    (plain-bytes c.as_bytes.result.now c.is_ascii_uri.result c.is_ascii_uri.ensures c.as_bytes.ensures.utf8)
