use Rattle.std.proofs.Common.{arith, rules, refl}
use Rattle.rst_block_state.specs.declared.waits.Waits.TheVariants.{Replacement}
use Rattle.rst_block_markup.proofs.PartLemmas.{content_reads}
use Rattle.rst_block_markup.proofs.substitution.replacement.Goals as goal

pub returns : goal.returns
returns c =
    content_reads (Replacement c.in_ok-new.field-0) c.args.content refl tt tt c.requires.content c.requires.later c.go_to.ensures.moved (c.go_to.ensures.there c.requires.later) (search rules) refl
    (omega (arith, c.in_ok-source.ensures.each)) (omega (arith, c.source.ensures.most))
