use Rattle.std.proofs.Common.{◌≡◌, Some, sym, ap, ◌∙◌, rules}
use Rattle.rst_text.specs.Text.{chars_of}
use Rattle.rst_markup_directives.specs.Value.{meaning_of}
use Rattle.rst_markup_directives.specs.contracts.option.OptionName.{the_type}
use Rattle.rst_markup_directives.specs.declared.option.OptionName.TheVariants.{Subtitle}
use Rattle.rst_block_nodes.specs.Options.{subtitle_meant}
use Rattle.rst_block_nodes.proofs.OptionLemmas.{subtitle_found}
use Rattle.rst_block_nodes.proofs.directives.subtitle_text.Goals as goal
use denote.Enum.Bare.{same_true}

pub returns-in-loop-setting : goal.returns-in-loop-setting
returns-in-loop-setting c =
    let s = c.setting-item.result in
    let option : s.option ≡ Subtitle = same_true the_type (search rules) _ _ (sym c.if-eq.ensures) in
    let text : chars_of c.in-Text.text ≡ Rattle.std.specs.Str.chars c.as_str.result.now = sym (ap Rattle.std.specs.Str.chars c.as_str.ensures.value) in
    subtitle_found c.args.options.now c.loop-setting.setting-index s _ c.loop-setting-test.true c.setting-item.is
    (ap (λ o. subtitle_meant o (meaning_of s.value)) option ∙ ap (λ v. subtitle_meant Subtitle (meaning_of v)) c.in-Text.is ∙ ap Some text)
    c.loop-setting.invariant
