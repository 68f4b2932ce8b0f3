use Rattle.std.proofs.Common.{◌≡◌, false, sym}
use Rattle.rst_inline_scan.specs.Registered.{may_name_scheme}
use Rattle.rst_inline_scan.proofs.RegisteredLemmas.{no-registered}
use Rattle.rst_inline_scan.proofs.registered.registered_uri.Goals as goal

pub returns-then-not-may_name_scheme : goal.returns-then-not-may_name_scheme
returns-then-not-may_name_scheme c =
    let stops : may_name_scheme c.args.text.now c.args.end ≡ false = cc in
    sym (no-registered c.args.text.now c.args.place c.args.end c.requires.word stops)
