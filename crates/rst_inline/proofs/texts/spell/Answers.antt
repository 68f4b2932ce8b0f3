use Rattle.rst_inline.proofs.TextLemmas.{all-written, chars-text_bytes}
use Rattle.rst_inline.proofs.texts.spell.Goals as goal

pub returns-clause-same : goal.returns-clause-same
returns-clause-same c =
    let written = all-written _ c.args.characters.now c.loop-c.c-index c.loop-c-test.false c.loop-c.invariant in
    chars-text_bytes c.loop-c.out c.args.characters.now written
