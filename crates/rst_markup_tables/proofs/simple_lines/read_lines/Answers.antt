use Rattle.std.proofs.Common.{◌∙◌, subst, sym, arith}
use Rattle.rst_text.specs.ViewBlock.{block_of}
use Rattle.rst_markup_tables.specs.Places.{AreNumbered}
use Rattle.rst_markup_tables.proofs.Numbered.{line_more, numbered-lines}
use Rattle.rst_markup_tables.proofs.simple_lines.read_lines.Goals as goal

pub loop-k-preserved : goal.loop-k-preserved
loop-k-preserved c =
    let more = line_more (block_of c.args.view.now) c.args.from c.loop-k.k c.in_ok-line.line c.loop-k.lines.items (omega arith) (omega arith) c.in_ok-line.ensures.line (c.in_ok-line.ensures.number, c.in_ok-line.ensures.parts) c.loop-k.invariant.lines c.loop-k.invariant.numbered in
    record { lines = c.in_ok-push.ensures.items ∙ more.0; numbered = more.1; looked = search (arith, c.line-text.ensures.looks) }

pub returns-clause-numbered : goal.returns-clause-numbered
returns-clause-numbered c = subst AreNumbered (sym c.loop-k.invariant.lines) (numbered-lines _ _ _ c.loop-k.invariant.numbered)
