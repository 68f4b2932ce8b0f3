use Rattle.std.proofs.Common.{◌≡◌, ◌∙◌, ap, ap₂, codes, true}
use Rattle.std.proofs.lemmas.Result.{IfOk-weaker}
use Rattle.clap.specs.Simple.{app_of_fields, on_top}
use Rattle.clap.specs.declared.builder.arg.Arg.{Arg}
use Rattle.clap.specs.declared.builder.value_parser.ValueParser.TheVariants.{Unsigned}
use Rattle.clap.specs.Words.{Rule, app_of, new_rule, rule_of, with_rule}
use Rattle.rst2pseudoxml_options.specs.Command.{flag, with_short}
use Rattle.rst2pseudoxml_options.specs.TreeCommand.{checked_option, named, tree_command, with_default, AreTests, Tests}
use Rattle.rst2pseudoxml_options.proofs.tree_command.tree_command.Goals as goal

pub returns : goal.returns
unfolding tree_command
returns c =
    let tests : Tests = record { levels = c.levels-levels.result; profiles = c.profiles-profiles.result; formats = c.formats-formats.result } in
    let are : AreTests tests = record { levels = c.levels-levels.ensures; profiles = c.profiles-profiles.ensures; formats = c.formats-formats.ensures } in
    let app-0 : app_of c.no_binary_name.result ≡ named =
    ap app_of_fields c.no_binary_name.ensures
    ∙ ap (on_top (λ s. record s { no_binary_name = true })) (ap app_of_fields c.version.ensures
    ∙ ap (on_top (λ s. record s { has_version = true })) (ap app_of_fields c.about.ensures ∙ c.new.ensures.app)) in
    let rule-1 : rule_of c.default_value.result ≡ with_default (codes "docutils") (checked_option (codes "profile") tests.profiles) = ap rule_of c.default_value.ensures ∙ ap (with_default (codes "docutils")) (c.option.ensures.rule) in
    let app-1 = c.in_ok-arg.ensures.shape (ap (λ (a : Arg). a.global) c.default_value.ensures ∙ c.option.ensures.local) ∙ ap₂ with_rule app-0 rule-1 in
    let rule-2 : rule_of c.default_value-2.result ≡ with_default (codes "pseudoxml") (checked_option (codes "format") tests.formats) = ap rule_of c.default_value-2.ensures ∙ ap (with_default (codes "pseudoxml")) (c.option-2.ensures.rule) in
    let app-2 = c.in_ok-arg-2.ensures.shape (ap (λ (a : Arg). a.global) c.default_value-2.ensures ∙ c.option-2.ensures.local) ∙ ap₂ with_rule app-1 rule-2 in
    let rule-3 : rule_of c.short.result ≡ with_short 114 (checked_option (codes "report") tests.levels) = ap rule_of c.short.ensures ∙ ap (with_short 114) (c.option-3.ensures.rule) in
    let app-3 = c.in_ok-arg-3.ensures.shape (ap (λ (a : Arg). a.global) c.short.ensures ∙ c.option-3.ensures.local) ∙ ap₂ with_rule app-2 rule-3 in
    let rule-4 : rule_of c.short-2.result ≡ with_short 118 (flag (codes "verbose")) = ap rule_of c.short-2.ensures ∙ ap (with_short 118) (c.flag.ensures.rule) in
    let app-4 = c.in_ok-arg-4.ensures.shape (ap (λ (a : Arg). a.global) c.short-2.ensures ∙ c.flag.ensures.local) ∙ ap₂ with_rule app-3 rule-4 in
    let rule-5 : rule_of c.short-3.result ≡ with_short 113 (flag (codes "quiet")) = ap rule_of c.short-3.ensures ∙ ap (with_short 113) (c.flag-2.ensures.rule) in
    let app-5 = c.in_ok-arg-5.ensures.shape (ap (λ (a : Arg). a.global) c.short-3.ensures ∙ c.flag-2.ensures.local) ∙ ap₂ with_rule app-4 rule-5 in
    let app-6 = c.in_ok-arg-6.ensures.shape c.option-4.ensures.local ∙ ap₂ with_rule app-5 c.option-4.ensures.rule in
    let app-7 = c.in_ok-arg-7.ensures.shape c.flag-3.ensures.local ∙ ap₂ with_rule app-6 c.flag-3.ensures.rule in
    let app-8 = c.in_ok-arg-8.ensures.shape c.option-5.ensures.local ∙ ap₂ with_rule app-7 c.option-5.ensures.rule in
    let app-9 = c.in_ok-arg-9.ensures.shape c.flag-4.ensures.local ∙ ap₂ with_rule app-8 c.flag-4.ensures.rule in
    let app-10 = c.in_ok-arg-10.ensures.shape c.flag-5.ensures.local ∙ ap₂ with_rule app-9 c.flag-5.ensures.rule in
    let app-11 = c.in_ok-arg-11.ensures.shape c.option-6.ensures.local ∙ ap₂ with_rule app-10 (c.option-6.ensures.rule ∙ ap (checked_option (codes "tab-width")) c.unsigned-tabs.ensures) in
    let app-12 = c.in_ok-arg-12.ensures.shape c.option-7.ensures.local ∙ ap₂ with_rule app-11 (c.option-7.ensures.rule ∙ ap (checked_option (codes "line-length-limit")) c.unsigned-limits.ensures) in
    let source : rule_of c.help.result ≡ record (new_rule (codes "source")) { value_names = 1 } =
    ap rule_of c.help.ensures ∙ ap rule_of c.value_name.ensures ∙ ap (λ (r : Rule). record r { value_names = 1 }) c.new-2.ensures.rule in
    let local = ap (λ (a : Arg). a.global) c.help.ensures ∙ ap (λ (a : Arg). a.global) c.value_name.ensures ∙ c.new-2.ensures.optional.1 in
    IfOk-weaker c.arg-13.result _ _ (λ m h. (tests, are, h.shape local ∙ ap₂ with_rule app-12 source)) c.arg-13.ensures
