use Rattle.std.proofs.Common.{◌≡◌, ◌∙◌, ◌<◌, ◌+◌, ap, arith, length, length-drop, add_assoc, add-zero}
use Rattle.std.proofs.KnownBytes.{Appends-trans}
use Rattle.std.proofs.Math.Seq.{take-add}
use Rattle.std.proofs.lemmas.List.{drop_all, drop-drop, take_rest}
use Rattle.rst_text.specs.Counted.{inner_of}
use Rattle.rst_text.specs.Counted.Written.{all, empty, some, last}
use Rattle.rst_text.proofs.counted.Counted.write_all.Goals as goal

pub returns-in-None-clause-call : goal.returns-in-None-clause-call
returns-in-None-clause-call g c =
    let s = take_rest c.args.bytes.now c.loop-done.done in
    rw (add-zero c.loop-done.done) at (c.loop-done.invariant.calls _ 0 (last (omega (arith, length-drop c.loop-done.done c.args.bytes.now)) (rw s at c.in-None.ensures.call)))

pub returns-clause-call : goal.returns-clause-call
returns-clause-call g c =
    let done : c.loop-done.done ≡ length c.args.bytes.now = omega arith in
    rw (add-zero c.loop-done.done, done) at (c.loop-done.invariant.calls (inner_of c.loop-done.self) 0 (rw (drop_all c.loop-done.done c.args.bytes.now (omega arith)) (empty all)))

pub loop-done-preserved : goal.loop-done-preserved
loop-done-preserved g c =
    let e = c.in-Some.ensures.bytes in
    let s = take_rest c.args.bytes.now c.loop-done.done in
    record {
      within = let h = ap length s in omega (arith, e.0, length-drop c.loop-done.done c.args.bytes.now);
      gained = rw (take-add c.loop-done.done c.in-Some.count c.args.bytes.now) (Appends-trans _ _ _ _ _ c.loop-done.invariant.gained (rw s at e.2));
      same = e.3 ∙ c.loop-done.invariant.same;
      calls = λ w taken h.
          let some_taken : 0 < c.in-Some.count = e.1 (let k = ap length s in omega (arith, length-drop c.loop-done.done c.args.bytes.now)) in
          rw (add_assoc c.loop-done.done c.in-Some.count taken)
          (c.loop-done.invariant.calls w (c.in-Some.count + taken) (some some_taken (rw s at e.0) (rw s at c.in-Some.ensures.call) (rw (drop-drop c.in-Some.count c.loop-done.done c.args.bytes.now) h)));
    }
