use Rattle.std.proofs.Common.{◌≡◌, ◌+◌, ◌++◌, [], ◌∷◌, false, drop, length, sym, ap, ◌∙◌, arith, length-append}
use Rattle.std.specs.Str.{chars}
use Rattle.rst_text.specs.Block.{is_blank}
use Rattle.rst_text.specs.ViewBlock.{block_of}
use Rattle.rst_markup_directives.specs.Lines.{texts_of, first_run}
use Rattle.rst_markup_directives.proofs.Runs.{run-more}
use Rattle.rst_markup_directives.proofs.lines.run_of.Goals as goal

pub loop-i-preserved : goal.loop-i-preserved
loop-i-preserved c =
    let items : c.push.new.self.items ≡ c.loop-i.run.items ++ c.line-line.result ∷ [] = c.in_ok-push.ensures.items in
    let dark : is_blank (chars c.line-line.result.now) ≡ false = sym c.is_blank.ensures ∙ c.if-is_blank.false in
    record {
      texts = ap (λ xs. texts_of xs ++ first_run (drop (c.loop-i.i + 1) (block_of c.args.lines.now))) items
          ∙ run-more (λ line. chars line.now) (block_of c.args.lines.now) c.loop-i.i c.loop-i.run.items c.line-line.result (omega arith) c.line-line.ensures.text dark c.loop-i.invariant.texts;
      count = omega (arith, simp length-append at (ap length items), c.loop-i.invariant.count);
      looked = search (arith, c.line-line.ensures.looks);
    }
