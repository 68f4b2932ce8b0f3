use Rattle.std.proofs.Common.{◌∙◌, ap}
use Rattle.std.specs.Str.{chars}
use Rattle.rst_block_state.specs.Texts.{joined}
use Rattle.rst_block_body.proofs.quote.attribution_text.Goals as goal

pub returns-clause-text : goal.returns-clause-text
returns-clause-text c =
    let text = ap chars c.as_str-text.ensures.value ∙ c.in_ok-text.ensures.text ∙ ap joined c.inside-text.ensures.block in
    rw (text, c.parts-parts.ensures.value, c.number_at-line.ensures) at c.in_ok-made.ensures.read
