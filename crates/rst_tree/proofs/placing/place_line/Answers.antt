use Rattle.std.proofs.Common.{◌≡◌, ◌<◌, ◌+◌, ◌∙◌, length, drop, min, refl, ap, arith, length-drop}
use Rattle.std.proofs.lemmas.List.{take_rest}
use Rattle.std.proofs.lemmas.Simd.{length-put_chunk}
use lib.Count.{count_trailing_zeros}
use lib.Lanes.{chunk}
use Rattle.rst_text.proofs.LaneLemmas.{lowest_passes}
use Rattle.rst_text.proofs.RunLemmas.{none-failing, first-failing}
use Rattle.rst_text.specs.Runs.{fails_test}
use Rattle.rst_tree.proofs.FirstLine.{line_len_run}
use Rattle.rst_tree.proofs.Overlaid.{placed-more, placed-front, placed-rest, placed-there, run-of-mask}
use Rattle.rst_tree.specs.Print.{is_of_line}
use Rattle.rst_tree.proofs.placing.place_line.Goals as goal

pub returns-then-ends-ne0-clause-line : goal.returns-then-ends-ne0-clause-line
returns-then-ends-ne0-clause-line c =
    line_len_run c.args.text.now _ (first-failing is_of_line c.args.text.now 0 c.loop-done.done 16 c.failing-ends.result (omega arith) (omega arith) (omega arith) c.loop-done.invariant.line c.failing-ends.ensures (omega arith))

pub returns-then-ends-ne0-clause-placed : goal.returns-then-ends-ne0-clause-placed
returns-then-ends-ne0-clause-placed c =
    let l = c.loop-done in
    let inside : count_trailing_zeros 64 c.failing-ends.result < 16 =
    (lowest_passes (fails_test is_of_line) c.args.text.now l.done 16 c.failing-ends.result (omega arith) (omega arith) c.failing-ends.ensures (omega arith)).inside in
    placed-front c.args.all.now _ c.args.text.now c.args.at (l.done + 16) (l.done + count_trailing_zeros 64 c.failing-ends.result) (omega arith) (omega arith)
    (placed-more c.args.all.now l.all c.args.text.now c.args.at l.done (omega arith) (omega (arith, l.invariant.len)) l.invariant.placed)

pub loop-done-preserved : goal.loop-done-preserved
loop-done-preserved c =
    let l = c.loop-done in
    record {
      within = omega arith;
      len = length-put_chunk (c.args.at + l.done) l.all (chunk l.done 16 c.args.text.now) ∙ l.invariant.len;
      placed = placed-more c.args.all.now l.all c.args.text.now c.args.at l.done (omega arith) (omega (arith, l.invariant.len)) l.invariant.placed;
      line = none-failing is_of_line c.args.text.now 0 l.done 16 (l.done + 16) c.failing-ends.result refl (omega arith) l.invariant.line c.failing-ends.ensures (omega arith);
    }

pub returns-clause-line : goal.returns-clause-line
returns-clause-line c =
    let l = c.loop-done in
    let text = c.args.text.now in
    let rest = drop l.done text in
    let long : l.done + length rest ≡ length text = omega (arith, length-drop l.done text, l.invariant.within) in
    let there = placed-there l.all c.place.new.all rest (c.args.at + l.done) (omega (arith, l.invariant.len)) (rw (take_rest text l.done) at c.place.ensures.placed) in
    let least : c.min.result ≡ min (length rest) (count_trailing_zeros 64 c.failing-ends-2.result) = omega (arith, c.min.ensures, length-drop l.done text) in
    ap (λ n. l.done + n) least ∙ line_len_run text _
    (run-of-mask is_of_line text c.place.new.all (c.args.at + l.done) l.done (length rest) long l.invariant.line there c.failing-ends-2.result (omega arith) (omega (arith, c.place.ensures.len, l.invariant.len)) c.failing-ends-2.ensures)

pub returns-clause-placed : goal.returns-clause-placed
returns-clause-placed c =
    let l = c.loop-done in
    let text = c.args.text.now in
    placed-front c.args.all.now c.place.new.all text c.args.at (length text) (l.done + c.min.result) (omega arith) (omega (arith, c.min.ensures, length-drop l.done text))
    (placed-rest c.args.all.now l.all c.place.new.all text c.args.at l.done l.invariant.within l.invariant.placed (rw (take_rest text l.done) at c.place.ensures.placed))
