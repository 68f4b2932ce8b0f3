use Rattle.std.proofs.Common.{◌≡◌, ◌∙◌, ap, ap₂, codes, true}
use Rattle.std.proofs.lemmas.Result.{IfOk-weaker}
use Rattle.clap.specs.Simple.{app_of_fields, on_top}
use Rattle.clap.specs.declared.builder.arg.Arg.{Arg}
use Rattle.clap.specs.Words.{app_of, rule_of, with_rule}
use Rattle.rst2pseudoxml_options.specs.Command.{program, bare, flag, value_option, with_short}
use Rattle.rst2pseudoxml_options.proofs.command.program.Goals as goal

pub returns : goal.returns
unfolding program
returns c =
    let rule-1 : rule_of c.short.result ≡ with_short 114 (value_option (codes "report")) = ap rule_of c.short.ensures ∙ ap (with_short 114) c.value_option.ensures.rule in
    let rule-2 : rule_of c.short-2.result ≡ with_short 118 (flag (codes "verbose")) = ap rule_of c.short-2.ensures ∙ ap (with_short 118) c.flag.ensures.rule in
    let rule-3 : rule_of c.short-3.result ≡ with_short 113 (flag (codes "quiet")) = ap rule_of c.short-3.ensures ∙ ap (with_short 113) c.flag-2.ensures.rule in
    let app-0 : app_of c.disable_version_flag.result ≡ bare =
    ap app_of_fields c.disable_version_flag.ensures
    ∙ ap (on_top (λ s. record s { disable_version_flag = true })) (ap app_of_fields c.disable_help_flag.ensures
    ∙ ap (on_top (λ s. record s { disable_help_flag = true })) (ap app_of_fields c.no_binary_name.ensures
    ∙ ap (on_top (λ s. record s { no_binary_name = true })) c.new.ensures.app)) in
    let app-1 = c.in_ok-arg.ensures.shape (ap (λ (a : Arg). a.global) c.short.ensures ∙ c.value_option.ensures.local) ∙ ap₂ with_rule app-0 rule-1 in
    let app-2 = c.in_ok-arg-2.ensures.shape (ap (λ (a : Arg). a.global) c.short-2.ensures ∙ c.flag.ensures.local) ∙ ap₂ with_rule app-1 rule-2 in
    let app-3 = c.in_ok-arg-3.ensures.shape (ap (λ (a : Arg). a.global) c.short-3.ensures ∙ c.flag-2.ensures.local) ∙ ap₂ with_rule app-2 rule-3 in
    let app-4 = c.in_ok-arg-4.ensures.shape c.value_option-2.ensures.local ∙ ap₂ with_rule app-3 c.value_option-2.ensures.rule in
    let app-5 = c.in_ok-arg-5.ensures.shape c.flag-3.ensures.local ∙ ap₂ with_rule app-4 c.flag-3.ensures.rule in
    let app-6 = c.in_ok-arg-6.ensures.shape c.value_option-3.ensures.local ∙ ap₂ with_rule app-5 c.value_option-3.ensures.rule in
    let app-7 = c.in_ok-arg-7.ensures.shape c.flag-4.ensures.local ∙ ap₂ with_rule app-6 c.flag-4.ensures.rule in
    let app-8 = c.in_ok-arg-8.ensures.shape c.flag-5.ensures.local ∙ ap₂ with_rule app-7 c.flag-5.ensures.rule in
    let app-9 = c.in_ok-arg-9.ensures.shape c.value_option-4.ensures.local ∙ ap₂ with_rule app-8 c.value_option-4.ensures.rule in
    let app-10 = c.in_ok-arg-10.ensures.shape c.value_option-5.ensures.local ∙ ap₂ with_rule app-9 c.value_option-5.ensures.rule in
    IfOk-weaker c.arg-11.result _ _ (λ m h. h.shape c.new-2.ensures.optional.1 ∙ ap₂ with_rule app-10 c.new-2.ensures.rule) c.arg-11.ensures
