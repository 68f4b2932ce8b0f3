use Rattle.std.proofs.Common.{◌≡◌, ◌∙◌, IfOk, Some, ap, subst, sym}
use Rattle.rst_inline.specs.Parts.{content, source}
use Rattle.rst_inline.proofs.RoleLemmas.{raw-read}
use Rattle.rst_inline.proofs.written.Written.with_role.Goals as goal

pub returns-in-Some-Raw : goal.returns-in-Some-Raw
returns-in-Some-Raw c =
    let w = c.args.self.now in
    let t = w.characters.items in
    let is = raw-read w.parts.now c.args.name.now (source t c.args.piece) (content t c.args.piece) w.line c.utf8.name (sym c.hands_role.ensures ∙ c.if-hands_role.false) (ap Some (sym c.in-Some-Raw.field-0-is) ∙ c.in-Some-Raw.ensures) in
    subst (λ m. IfOk c.wrong_role.result (λ reading. reading ≡ m)) is c.wrong_role.ensures
