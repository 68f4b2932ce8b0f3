use Rattle.std.proofs.Common.{arith, ap, sym, ◌∙◌}
use Rattle.std.specs.Prelude.{is_some}
use Rattle.rst_text.proofs.PlacesLemmas.{NoneFrom-more, NoneFrom-nothing}
use Rattle.rst_markup_tables.proofs.Frames.{no_bottom, none_drawn, one_drawn}
use Rattle.rst_markup_tables.proofs.drawn.Runs.drawn_from.Goals as goal

pub loop-right-init : goal.loop-right-init
loop-right-init c = NoneFrom-nothing _ _ _ (omega arith)

pub loop-right-preserved-then-not-is_side : goal.loop-right-preserved-then-not-is_side
loop-right-preserved-then-not-is_side c =
    NoneFrom-more _ _ _ c.loop-right.invariant (λ _. no_bottom c.args.self.now.rows.now c.args.top c.args.left c.loop-right.right (sym c.is_side.ensures ∙ c.if-not-is_side.true))

pub returns-in-Some-clause-value : goal.returns-in-Some-clause-value
returns-in-Some-clause-value c =
    one_drawn c.args.self.now.rows.now c.args.top c.args.left c.loop-right.right c.in-Some.bottom (omega arith) (omega arith) c.loop-right.invariant (sym c.in-Some.is ∙ c.bottom.ensures)

pub loop-right-preserved : goal.loop-right-preserved
loop-right-preserved c = NoneFrom-more _ _ _ c.loop-right.invariant (λ _. ap is_some (sym c.bottom.ensures ∙ c.in_default.is))

pub returns-clause-value : goal.returns-clause-value
returns-clause-value c = none_drawn c.args.self.now.rows.now c.args.top c.args.left (λ k above below. c.loop-right.invariant k above (omega arith))
