use Rattle.std.proofs.Common.{◌≡◌, ◌∙◌, ap, arith}
use Rattle.rst_text.proofs.LongLines.{Measures-end, Measures-over, Measures-start, Measures-step, short-piece, width, width-other, width-tab}
use Rattle.rst_text.proofs.lines.is_longer.Goals.{then-c-eq9, else-c-eq9}
use Rattle.rst_text.proofs.lines.is_longer.Goals as goal

pub returns-then-piece-most : goal.returns-then-piece-most
returns-then-piece-most c = short-piece _ _ _ c.utf8.piece (omega arith) (omega (arith, c.requires.most))

pub loop-c-init : goal.loop-c-init
loop-c-init c = Measures-start _ _ _ _ c.utf8.piece (ap (λ i. i.rest.now) c.into_iter-c-iterator.ensures.into_iter_gives ∙ c.chars-c-items.ensures.rest) (omega arith)

pub returns-then-wide-limit : goal.returns-then-wide-limit
returns-then-wide-limit c =
    let is : c.if-c-eq9.wide ≡ width c.args.tab c.loop-c.column c.in-Some.c = elim c.if-c-eq9.branch [
      | then-c-eq9 w ↦ w.wide-is ∙ width-tab _ _ _ w.if-c-eq9.true
      | else-c-eq9 w ↦ w.wide-is ∙ width-other _ _ _ w.if-c-eq9.false
    ] in
    Measures-over _ _ _ _ _ _ _ _ c.loop-c.invariant c.in-Some.ensures.steps.0 is (omega arith)

pub loop-c-preserved : goal.loop-c-preserved
loop-c-preserved c =
    let is : c.if-c-eq9.wide ≡ width c.args.tab c.loop-c.column c.in-Some.c = elim c.if-c-eq9.branch [
      | then-c-eq9 w ↦ w.wide-is ∙ width-tab _ _ _ w.if-c-eq9.true
      | else-c-eq9 w ↦ w.wide-is ∙ width-other _ _ _ w.if-c-eq9.false
    ] in
    Measures-step _ _ _ _ _ _ _ _ c.loop-c.invariant c.in-Some.ensures.steps.0 is (omega arith)

pub returns : goal.returns
returns c = Measures-end _ _ _ _ _ c.loop-c.invariant c.in-None.ensures.steps.0.0
