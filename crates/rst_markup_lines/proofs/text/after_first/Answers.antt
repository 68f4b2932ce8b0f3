use Rattle.std.proofs.Common.{arith}
use Rattle.rst_markup_lines.proofs.TextLemmas.{after_char, none_after, none_first}
use Rattle.rst_markup_lines.proofs.text.after_first.Goals as goal

pub returns-clause-value : goal.returns-clause-value
returns-clause-value c = after_char _ _ _ _ _ c.utf8.text c.chars-rest.ensures.rest c.in-Some.ensures.steps.0 c.as_str.ensures

pub returns-in_default-clause-value : goal.returns-in_default-clause-value
returns-in_default-clause-value c = none_after c.args.text.now (omega (arith, c.in_default.ensures.steps.0.0))

pub returns-in_default-clause-shorter : goal.returns-in_default-clause-shorter
returns-in_default-clause-shorter c = none_first c.args.text.now _ (omega (arith, c.in_default.ensures.steps.0.0))
