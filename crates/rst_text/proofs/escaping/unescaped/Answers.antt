use Rattle.std.proofs.Common.{◌≡◌, sym, false, IfOk, subst}
use Rattle.rst_text.specs.Escapes.{has_backslash}
use Rattle.rst_text.proofs.EscapeLemmas.{unescaped-plain, unescaped-read}
use Rattle.rst_text.proofs.escaping.unescaped.Goals as goal

pub returns-then-not-contains : goal.returns-then-not-contains
returns-then-not-contains c =
    let none : has_backslash c.args.text.now ≡ false = cc in
    let same = unescaped-plain c.args.text.now none in
    subst (λ t. IfOk c.from_slice.result (λ out. out.items ≡ t)) (sym same) c.from_slice.ensures.items

pub loop-letter-init : goal.loop-letter-init
loop-letter-init c = rw c.in_ok-out.ensures.items (unescaped-read c.args.text.now)
