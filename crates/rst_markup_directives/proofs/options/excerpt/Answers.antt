use Rattle.std.proofs.Common.{take, ap₂, ◌∙◌}
use Rattle.rst_markup_directives.proofs.options.excerpt.Goals as goal

pub returns : goal.returns
returns c = c.truncate.ensures.items ∙ ap₂ take c.saturating_sub.ensures (c.in_ok-part.ensures ∙ c.skip.ensures.chars)
