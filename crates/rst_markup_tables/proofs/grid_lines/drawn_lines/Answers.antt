use Rattle.std.proofs.lemmas.Bool.{and_parts, cond_both}
use Rattle.std.proofs.lemmas.Bool.Decides.{nat_tests}
use Rattle.std.specs.Prelude.{IfSome, chars}
use Rattle.std.proofs.Common.{◌≡◌, ◌+◌, ◌-◌, ◌∙◌, ◌&&◌, true, false, cond, leb, Some, Option, ℕ, ap, sym, subst, take, drop, length-drop, arith}
use Rattle.rst_text.specs.Block.{Block, first_text}
use Rattle.rst_text.specs.Places.{IsLast}
use Rattle.rst_text.specs.ViewBlock.{block_of}
use Rattle.rst_markup_lines.specs.Border.{is_grid_border}
use Rattle.rst_markup_blocks.specs.declared.lines.LineTest.TheVariants.{Drawn}
use Rattle.rst_markup_blocks.specs.TableLines.{is_drawn}
use Rattle.rst_markup_blocks.specs.TableRows.{is_border_at}
use Rattle.rst_markup_blocks.specs.Lines.{lines_while}
use Rattle.rst_markup_blocks.proofs.LineLemmas.{while_more, while_stop, while_end}
use Rattle.rst_markup_blocks.proofs.TableLemmas.{grid_bottom-is}
use Rattle.rst_markup_tables.specs.Places.{AreNumbered, rows_of}
use Rattle.rst_markup_tables.proofs.Numbered.{line_more, numbered-lines}
use Rattle.rst_markup_tables.proofs.GridLemmas.{rows-taken, border-more, scan-over, scan-here}
use Rattle.rst_markup_tables.proofs.grid_lines.drawn_lines.Goals as goal

pub returns-then-not-is_drawn : goal.returns-then-not-is_drawn
returns-then-not-is_drawn c =
    let B : Block = block_of c.args.view.now in
    let stop : is_drawn (first_text (drop c.loop-k.k B)) ≡ false = sym (c.is_drawn.ensures ∙ ap is_drawn c.line-text.ensures.text) ∙ c.if-not-is_drawn.true in
    let X : Block = drop c.args.i B in
    let all : c.loop-k.k - c.args.i - 2 ≡ lines_while Drawn X - 2 = omega (arith, c.loop-k.invariant.among, (while_stop c.loop-k.k Drawn B (omega arith) stop).0) in
    record {
      lines = c.loop-k.invariant.lines ∙ rows-taken B c.args.i (c.loop-k.k - c.args.i) ∙ ap (λ n. rows_of (take n X)) (omega (arith, c.loop-k.invariant.among, (while_stop c.loop-k.k Drawn B (omega arith) stop).0));
      numbered = subst AreNumbered (sym c.loop-k.invariant.lines) (numbered-lines B c.args.i c.loop-k.k c.loop-k.invariant.numbered);
      bottom = grid_bottom-is X (c.loop-k.k - c.args.i) c.loop-k.bottom all c.loop-k.invariant.last;
      looked = search (arith, scan-here (block_of c.args.view.now) c.args.i c.loop-k.k (omega arith) (omega arith) c.loop-k.invariant.among, c.loop-k.invariant.looked.1, c.line-text.ensures.looks);
      each = omega (arith, (while_stop c.loop-k.k Drawn B (omega arith) stop).0, c.loop-k.invariant.among, c.loop-k.invariant.looked.0, c.line-text.ensures.looks);
    }

pub returns-in_err-line-clause-looked : goal.returns-in_err-line-clause-looked
returns-in_err-line-clause-looked c = search (arith, scan-here (block_of c.args.view.now) c.args.i c.loop-k.k (omega arith) (omega arith) c.loop-k.invariant.among, c.loop-k.invariant.looked.1, c.line-text.ensures.looks)

pub returns-in_err-push-clause-looked : goal.returns-in_err-push-clause-looked
returns-in_err-push-clause-looked c = search (arith, scan-here (block_of c.args.view.now) c.args.i c.loop-k.k (omega arith) (omega arith) c.loop-k.invariant.among, c.loop-k.invariant.looked.1, c.line-text.ensures.looks)

pub loop-k-preserved : goal.loop-k-preserved
loop-k-preserved c =
    let B : Block = block_of c.args.view.now in
    let n : ℕ = c.loop-k.k - c.args.i in
    let drawn : is_drawn (first_text (drop c.loop-k.k B)) ≡ true = sym (c.is_drawn.ensures ∙ ap is_drawn c.line-text.ensures.text) ∙ c.if-not-is_drawn.false in
    let more = line_more B c.args.i c.loop-k.k c.in_ok-line.line c.loop-k.lines.items (omega arith) (omega arith) c.in_ok-line.ensures.line (c.in_ok-line.ensures.number, c.in_ok-line.ensures.parts) c.loop-k.invariant.lines c.loop-k.invariant.numbered in
    let step = border-more B c.args.i c.loop-k.k c.loop-k.bottom (omega arith) c.loop-k.invariant.last in
    let new : c.if-k-i-ge2.bottom ≡ cond (leb 2 n && is_grid_border (first_text (drop c.loop-k.k B))) (Some n) c.loop-k.bottom = grind (arith, nat_tests, c.line-text.ensures.text) in
    let border : c.if-k-i-ge2.border ≡ cond (leb 2 n && is_grid_border (first_text (drop c.loop-k.k B))) (Some c.line-text.result) c.loop-k.border = grind (arith, nat_tests, c.line-text.ensures.text) in
    record {
      lines = c.in_ok-push.ensures.items ∙ more.0;
      among = sym (while_more c.loop-k.k Drawn B (omega arith) drawn) ∙ c.loop-k.invariant.among;
      numbered = more.1;
      last = subst (λ (o : Option ℕ). IsLast (is_border_at (drop c.args.i B)) 2 (c.loop-k.k + 1 - c.args.i) o) (sym new) step;
      border = rw border (cond_both (leb 2 n && is_grid_border (first_text (drop c.loop-k.k B))) (Some c.line-text.result) c.loop-k.border (λ o. IfSome o (λ t. is_grid_border (chars t.now) ≡ true))
          (λ e. ap is_grid_border c.line-text.ensures.text ∙ (and_parts _ _ e).1) (λ _. c.loop-k.invariant.border));
      looked = search (arith, c.line-text.ensures.looks);
    }

pub returns-clause-lines : goal.returns-clause-lines
returns-clause-lines c =
    let B : Block = block_of c.args.view.now in
    c.loop-k.invariant.lines ∙ rows-taken B c.args.i (c.loop-k.k - c.args.i) ∙ ap (λ n. rows_of (take n (drop c.args.i B))) (omega (arith, c.loop-k.invariant.among, while_end c.loop-k.k Drawn B (omega arith)))

pub returns-clause-bottom : goal.returns-clause-bottom
returns-clause-bottom c =
    let B : Block = block_of c.args.view.now in
    let X : Block = drop c.args.i B in
    let all : c.loop-k.k - c.args.i - 2 ≡ lines_while Drawn X - 2 = omega (arith, c.loop-k.invariant.among, while_end c.loop-k.k Drawn B (omega arith)) in
    grid_bottom-is X (c.loop-k.k - c.args.i) c.loop-k.bottom all c.loop-k.invariant.last

pub returns-clause-looked : goal.returns-clause-looked
returns-clause-looked c =
    let B : Block = block_of c.args.view.now in
    let X : Block = drop c.args.i B in
    let over = scan-over X (c.loop-k.k - c.args.i) (omega (arith, c.loop-k.invariant.among)) (omega (arith, length-drop c.args.i B)) in
    search (arith, over, c.loop-k.invariant.looked)

pub returns-clause-each : goal.returns-clause-each
returns-clause-each c =
    let B : Block = block_of c.args.view.now in
    omega (arith, while_end c.loop-k.k Drawn B (omega arith), c.loop-k.invariant.among, c.loop-k.invariant.looked.0)

pub returns-clause-numbered : goal.returns-clause-numbered
returns-clause-numbered c = subst AreNumbered (sym c.loop-k.invariant.lines) (numbered-lines _ _ _ c.loop-k.invariant.numbered)
