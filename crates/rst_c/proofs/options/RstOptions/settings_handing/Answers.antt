use Rattle.std.proofs.Common.{Some, refl, subst}
use Rattle.std.proofs.lemmas.Str.{IsUtf8-from_is_utf8, is_utf8-from_IsUtf8}
use Rattle.rst_c.specs.Options.{SetsIf}
use Rattle.rst_c.proofs.options.RstOptions.settings_handing.Goals as goal

pub returns-in_default : goal.returns-in_default
returns-in_default c = (λ is. absurd (c.in_default.ensures.cases.0 (IsUtf8-from_is_utf8 c.args.names.now is)), λ _. refl)

pub returns : goal.returns
returns c =
    let cases = c.in-Ok.ensures.cases in (
      λ _. subst (λ names. SetsIf c.args.self.now (Some names) c.settings_with.result) cases.0 c.settings_with.ensures,
      λ is. let utf8 = is_utf8-from_IsUtf8 c.args.names.now cases.1 in absurd (cc),
    )
