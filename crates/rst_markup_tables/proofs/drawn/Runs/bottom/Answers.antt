use Rattle.std.proofs.Common.{◌≡◌, ◌+◌, true, false, length, arith, Some, None, sym, ◌∙◌}
use Rattle.std.proofs.lemmas.Bool.Decides.{nat_tests}
use Rattle.rst_text.proofs.PlacesLemmas.{first_from-is, all_from-more, NoneFrom-join, NoneFrom-more, NoneFrom-nothing}
use Rattle.rst_markup_tables.specs.Places.{place}
use Rattle.rst_markup_tables.specs.Drawn.{are_upright, is_frame}
use Rattle.rst_markup_tables.proofs.Rectangles.{place_within}
use Rattle.rst_markup_tables.proofs.Frames.{corners, frame_here, no_side, ended}
use Rattle.rst_markup_tables.proofs.drawn.Runs.bottom.Goals as goal

pub overflow_step-row : goal.overflow_step-row
overflow_step-row c =
    let plus : place c.args.self.now.rows.now c.args.top c.args.left ≡ 43 = grind (arith, nat_tests) in
    omega (arith, (place_within c.args.self.now.rows.now c.args.top c.args.left 43 plus (omega arith)).0)

pub loop-row-init : goal.loop-row-init
loop-row-init c = record {
  sides = corners c.args.self.now.rows.now c.args.top c.args.left c.args.right c.requires;
  none = NoneFrom-nothing _ _ _ (omega arith);
}

pub returns-then-not-is_upright : goal.returns-then-not-is_upright
returns-then-not-is_upright c =
    let G = c.args.self.now.rows.now in
    let ends : are_upright G c.args.left c.args.right c.loop-row.row ≡ false = grind arith in
    first_from-is (is_frame G c.args.top c.args.left c.args.right) (c.args.top + 1) (length G) None
    (NoneFrom-join _ _ c.loop-row.row _ c.loop-row.invariant.none (ended G c.args.top c.args.left c.args.right c.loop-row.row (length G) (omega arith) ends))

pub returns-then-is_side : goal.returns-then-is_side
returns-then-is_side c =
    let G = c.args.self.now.rows.now in
    let sides = all_from-more (are_upright G c.args.left c.args.right) c.args.top c.loop-row.row (omega arith) c.loop-row.invariant.sides (grind arith) in
    first_from-is (is_frame G c.args.top c.args.left c.args.right) (c.args.top + 1) (length G) (Some c.loop-row.row)
    (omega arith, omega arith, frame_here G c.args.top c.args.left c.args.right c.loop-row.row c.requires (sym c.is_side.ensures ∙ c.if-is_side.true) sides, c.loop-row.invariant.none)

pub loop-row-preserved : goal.loop-row-preserved
loop-row-preserved c =
    let G = c.args.self.now.rows.now in record {
      sides = all_from-more (are_upright G c.args.left c.args.right) c.args.top c.loop-row.row (omega arith) c.loop-row.invariant.sides (grind arith);
      none = NoneFrom-more _ _ _ c.loop-row.invariant.none (λ _. no_side G c.args.top c.args.left c.args.right c.loop-row.row (grind arith));
    }

pub returns : goal.returns
returns c =
    let G = c.args.self.now.rows.now in
    first_from-is (is_frame G c.args.top c.args.left c.args.right) (c.args.top + 1) (length G) None (λ k above below. c.loop-row.invariant.none k above (omega arith))
