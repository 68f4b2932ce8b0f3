use Rattle.std.proofs.Common.{◌≡◌, ◌<◌, ◌+◌, length, get_or, arith, sym, ◌∙◌, subst, true, false}
use Rattle.std.proofs.lemmas.Bool.Decides.{nat_tests}
use Rattle.std.proofs.lemmas.List.{get_or_read}
use Rattle.rst_markup_tables.proofs.Scan.{Stands, skip, add, overlap, no_tiling, next_row, finish}
use Rattle.rst_markup_tables.proofs.drawn.tiling.Goals as goal

pub loop-left-preserved-then-index-top : goal.loop-left-preserved-then-index-top
loop-left-preserved-then-index-top c =
    let wide : c.loop-left.left < length c.loop-left.depths.items = omega arith in
    let had : c.index.result.now ≡ get_or c.loop-left.depths.items c.loop-left.left 0 = get_or_read c.loop-left.depths.items _ _ wide c.index.ensures 0 in
    skip _ c.loop-top.top c.loop-left.left c.loop-left.depths.items c.loop-left.rectangles.items c.loop-left.invariant (omega arith) wide (λ e. c.if-index-top.true (had ∙ e))

pub returns-in_default : goal.returns-in_default
returns-in_default c =
    let wide : c.loop-left.left < length c.loop-left.depths.items = omega arith in
    let had : c.index.result.now ≡ get_or c.loop-left.depths.items c.loop-left.left 0 = get_or_read c.loop-left.depths.items _ _ wide c.index.ensures 0 in
    let s = c.loop-left.invariant in
    no_tiling _ c.loop-top.top c.loop-left.left c.loop-left.rectangles.items s.reached (omega arith) (omega (arith, s.size)) (grind (arith, nat_tests, s.count c.loop-top.top c.loop-left.left wide)) (sym c.in_default.is ∙ c.drawn_from.ensures.value)

pub returns-then-index-rectangle : goal.returns-then-index-rectangle
returns-then-index-rectangle c =
    let wide : c.loop-left.left < length c.loop-left.depths.items = omega arith in
    let had : c.index.result.now ≡ get_or c.loop-left.depths.items c.loop-left.left 0 = get_or_read c.loop-left.depths.items _ _ wide c.index.ensures 0 in
    let drawn = sym c.in-Some.is ∙ c.drawn_from.ensures.value in
    let depth_read = get_or_read c.loop-column.depths.items _ _ (omega (arith, c.in-Some.ensures.within.1, c.loop-left.invariant.size, c.loop-column.invariant.size)) c.index-in-loop-column.ensures 0 in
    overlap _ c.loop-top.top c.loop-left.left c.loop-left.depths.items c.loop-left.rectangles.items c.in-Some.rectangle c.loop-left.invariant (omega arith) wide (sym had ∙ c.if-index-top.false)
    drawn c.loop-column.column (omega arith) (omega arith) (λ e. c.if-index-rectangle.true (depth_read ∙ c.loop-column.invariant.kept c.loop-column.column (λ above below. omega arith) ∙ e))

pub loop-left-preserved : goal.loop-left-preserved
loop-left-preserved c =
    let wide : c.loop-left.left < length c.loop-left.depths.items = omega arith in
    let had : c.index.result.now ≡ get_or c.loop-left.depths.items c.loop-left.left 0 = get_or_read c.loop-left.depths.items _ _ wide c.index.ensures 0 in
    let drawn = sym c.in-Some.is ∙ c.drawn_from.ensures.value in
    subst (λ items. Stands c.args.rows.now c.loop-top.top (c.loop-left.left + 1) c.loop-column.depths.items items) (sym c.in_ok-push-2.ensures.items)
    (add _ c.loop-top.top c.loop-left.left c.loop-left.depths.items c.loop-column.depths.items c.loop-left.rectangles.items c.in-Some.rectangle c.loop-left.invariant (omega arith) wide (sym had ∙ c.if-index-top.false) drawn
    c.loop-column.invariant.size (λ k above below. c.loop-column.invariant.done k above (omega arith)) (λ k out. c.loop-column.invariant.kept k (λ above below. out above (omega (arith, c.in-Some.ensures.within.0, c.loop-column.auto.column-end)))))

pub loop-top-preserved : goal.loop-top-preserved
loop-top-preserved c =
    next_row c.args.rows.now c.loop-top.top c.loop-left.left c.loop-left.depths.items c.loop-left.rectangles.items c.loop-left.invariant (omega arith)

pub returns : goal.returns
returns c =
    finish c.args.rows.now c.loop-top.top c.loop-top.depths.items c.loop-top.rectangles.items c.loop-top.invariant (omega arith)
