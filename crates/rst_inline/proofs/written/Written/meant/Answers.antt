use Rattle.std.proofs.Common.{◌≡◌, ◌-◌, ◌≤◌, ◌∙◌, true, IfOk, cond, length, take, sym, ap, subst, arith}
use Rattle.std.specs.Cow.{cow_str_bytes}
use Rattle.std.specs.Str.{chars}
use Rattle.std.proofs.lemmas.List.{length-drop, length-take-le}
use Rattle.rst_text.specs.Characters.{Text, without_white}
use Rattle.rst_text.specs.Escapes.{unescaped}
use Rattle.rst_inline.specs.Embedded.{is_alias}
use Rattle.rst_inline.specs.Mail.{mailed}
use Rattle.rst_inline.specs.Parts.{part}
use Rattle.rst_inline.proofs.EmbeddedLemmas.{alias-some, alias-part}
use Rattle.rst_inline.proofs.written.Written.meant.Goals as goal

pub overflow_sub-high : goal.overflow_sub-high
overflow_sub-high c =
    let t = c.deref.result.now in
    let alias = ap is_alias (sym c.part-enclosed.ensures) ∙ sym c.is_alias.ensures ∙ c.if-is_alias.true in
    omega (
      arith,
      alias-some (part t c.args.low c.args.high) alias,
      length-drop c.args.low (take c.args.high t),
      length-take-le c.args.high t (subst (λ (t : Text). c.args.high ≤ length t) (sym c.deref.ensures.value) c.requires),
    )

pub returns-then-is_alias : goal.returns-then-is_alias
returns-then-is_alias c =
    let t = c.args.self.now.characters.items in
    let parts = c.args.self.now.parts.now in
    let u = part t c.args.low c.args.high in
    let enclosed = c.part-enclosed.ensures ∙ ap (λ (t : Text). part t c.args.low c.args.high) c.deref.ensures.value in
    let alias : is_alias u ≡ true = ap is_alias (sym enclosed) ∙ sym c.is_alias.ensures ∙ c.if-is_alias.true in
    let is = ap unescaped (alias-part t c.args.low c.args.high c.requires (alias-some u alias))
    ∙ sym (ap (λ b. cond b (unescaped (part u 0 (length u - 1))) (mailed parts.mail (without_white (unescaped u)))) alias) in
    subst (λ m. IfOk c.unescaped.result (λ meaning. chars (cow_str_bytes meaning) ≡ m)) is c.unescaped.ensures
