use Rattle.std.proofs.Common.{List, ℕ, Some, sym, ap, ◌∙◌}
use Rattle.rst_markup_directives.specs.Target.{destination_of}
use Rattle.rst_markup_directives.specs.Value.{meaning_of}
use Rattle.rst_block_nodes.specs.Options.{link_meant}
use Rattle.rst_block_nodes.proofs.OptionLemmas.{link_found}
use Rattle.rst_text.proofs.TextLemmas.{bytes_encoded}
use Rattle.rst_block_nodes.proofs.images.link_of.Goals as goal

pub returns-in-Link : goal.returns-in-Link
returns-in-Link c =
    link_found c.args.options.now c.loop-setting.setting-index c.setting-item.result (destination_of c.in-Link.to, c.as_str.result.now) c.loop-setting-test.true c.setting-item.is
    (ap (λ v. link_meant (meaning_of v)) c.in-Link.is ∙ ap (λ (b : List ℕ). Some (destination_of c.in-Link.to, b)) (sym (c.as_str.ensures.value ∙ bytes_encoded c.in-Link.source)))
    c.loop-setting.invariant
