use Rattle.std.proofs.Common.{◌≡◌, ◌∙◌, ap, ap₂, drop, sym, rules, tests, Bool, ◌&&◌, true, slice_index, ◌==◌}
use Rattle.std.proofs.lemmas.List.{take_rest}
use Rattle.std.proofs.lemmas.Slice.Eq.{bytes_eq-Decides}
use Rattle.std.specs.Bool.{one_answer}
use Rattle.std.specs.Str.{str_eq_ignore_ascii_case}
use Rattle.rst_settings.proofs.is_role_line.Goals as goal

pub returns-then-line-eq58 : goal.returns-then-line-eq58
returns-then-line-eq58 c =
    let whole = take_rest c.as_bytes-line.result.now 1 ∙ ap (drop 1) c.as_bytes-line.ensures.value in
    let same : c.eq_ignore_ascii_case.result ≡ str_eq_ignore_ascii_case (drop 1 c.args.line.now) c.args.name.now =
    one_answer _ _ c.eq_ignore_ascii_case.ensures.test (bytes_eq-Decides _ _) ∙ ap₂ str_eq_ignore_ascii_case whole c.as_bytes.ensures.value in
    let colon : (slice_index c.args.line.now 0 == 58) ≡ true = ap (λ line. slice_index line 0 == 58) (sym c.as_bytes-line.ensures.value) ∙ search (rules, tests) in
    same ∙ ap (λ (first : Bool). first && str_eq_ignore_ascii_case (drop 1 c.args.line.now) c.args.name.now) (sym colon)
