use Rattle.std.proofs.Common.{◌≡◌, ◌+◌, ◌-◌, ◌*◌, ◌^◌, ◌<◌, List, [], ◌∷◌, ◌++◌, length, length-append, length-drop, drop, arith, rules, refl, sym, ap, ◌∙◌}
use Rattle.std.proofs.lemmas.List.{drop-append-le}
use Rattle.rst_text.specs.Block.{Block}
use Rattle.rst_text.specs.ViewBlock.{block_of, source_of, placement_block}
use Rattle.rst_block_state.specs.machine.Meanings.{comes, reads}
use Rattle.rst_block_state.specs.declared.frame.Frame.{Frame}
use Rattle.rst_block_state.specs.declared.open_block.OpenBlock.{OpenBlock}
use Rattle.rst_block_state.specs.declared.step.Step.{Step}
use Rattle.rst_block_state.specs.declared.step.Step.TheVariants.{Begin, Next, Open}
use Rattle.rst_block_state.proofs.Calls.{refuses}
use Rattle.rst_block.proofs.Begins.{first_now, first_comes, first_paid, first_less}
use Rattle.rst_block.proofs.MachinePaid.{block_goes_on, block_opens, block_ends, block_waits}
use Rattle.rst_block.specs.Reading.{first_step, left, parts_left}
use Rattle.rst_block_body.proofs.StepsPaid.{takes_none}
use Rattle.rst_block.proofs.Stack.{now_of_next, now_of_resumed, cost_of_resumed, goes_on, stepped, opens, resumes, waits_again, second_left, parts_at_most, parts_at_least, taken, placed, still, nested_push, nested_pop}
use Rattle.rst_block_state.proofs.Views.{few_lines}
use Rattle.rst_block.proofs.Waiting.{plug_end_fails, plug_ends, plug_fails, plug_goes_on, plug_opens, plug_waits}
use Rattle.rst_block.proofs.machine.read_on.Goals as goal

pub closed-requires-clause-frame : goal.closed-requires-clause-frame
closed-requires-clause-frame c =
    let off = taken (source_of c.args.whole.now) c.args.base c.loop-now.frames c.pop.new.self c.in-Some.frame c.in-Some.ensures.some.0 c.in-Some.ensures.some.1 c.loop-now.invariant.waiting in
    off.4

pub closed-requires-clause-depth : goal.closed-requires-clause-depth
closed-requires-clause-depth c =
    let f : Frame = c.in-Some.frame in
    let off = taken (source_of c.args.whole.now) c.args.base c.loop-now.frames c.pop.new.self f c.in-Some.ensures.some.0 c.in-Some.ensures.some.1 c.loop-now.invariant.waiting in
    let nest = nested_pop c.args.depth (drop c.args.base c.pop.new.self) f (rw off.1 at c.loop-now.invariant.nested) in
    omega (arith, nest.1, length-drop c.args.base c.pop.new.self, ap length c.in-Some.ensures.some.0, length-append c.pop.new.self (f ∷ []), off.0, c.len.ensures)

pub closed-requires-clause-deepest : goal.closed-requires-clause-deepest
closed-requires-clause-deepest c =
    let f : Frame = c.in-Some.frame in
    let off = taken (source_of c.args.whole.now) c.args.base c.loop-now.frames c.pop.new.self f c.in-Some.ensures.some.0 c.in-Some.ensures.some.1 c.loop-now.invariant.waiting in
    let nest = nested_pop c.args.depth (drop c.args.base c.pop.new.self) f (rw off.1 at c.loop-now.invariant.nested) in
    omega (arith, nest.1, length-drop c.args.base c.pop.new.self, ap length c.in-Some.ensures.some.0, length-append c.pop.new.self (f ∷ []), off.0, c.loop-now.invariant.room)

pub closed-requires-clause-inner : goal.closed-requires-clause-inner
closed-requires-clause-inner c = omega (arith, c.loop-now.invariant.depth, c.in-Some.ensures.some.1)

pub loop-now-smaller-in_ok-now-in-Begin : goal.loop-now-smaller-in_ok-now-in-Begin
loop-now-smaller-in_ok-now-in-Begin c =
    let n = length (block_of c.loop-now.view) in
    rw c.in-Begin.is (goes_on (2 ^ 64) (251 - c.args.depth) (source_of c.args.whole.now) (drop c.args.base c.loop-now.frames) n c.loop-now.level.at n c.loop-now.level.at
    Begin c.in_ok-now-in-Begin.now c.in_ok-now-in-Begin.ensures.less)

pub loop-now-smaller-in_ok-now-in-Next : goal.loop-now-smaller-in_ok-now-in-Next
loop-now-smaller-in_ok-now-in-Next c =
    rw c.in-Next.is (stepped (2 ^ 64) (251 - c.args.depth) (source_of c.args.whole.now) (drop c.args.base c.loop-now.frames) (block_of c.loop-now.view) c.loop-now.level.at c.next.new.level.at
    Next c.in_ok-now-in-Next.now (omega arith) c.in_ok-now-in-Next.ensures.next)

pub loop-now-smaller-in_ok-push-in-Open : goal.loop-now-smaller-in_ok-push-in-Open
loop-now-smaller-in_ok-push-in-Open c =
    let S : Block = source_of c.args.whole.now in
    let B : Block = block_of c.loop-now.view in
    let f : Frame = c.opened-frame.result in
    let same : placement_block S f.placement ≡ B = ap (λ (T : Block). placement_block T f.placement) (sym c.loop-now.invariant.text) ∙ c.opened-frame.ensures.block in
    let fewer : left S f < 5 * (length B - c.loop-now.level.at) + 5 = omega (arith, ap length same, c.opened-frame.ensures.at, parts_at_most f.second) in
    let few : length (drop c.args.base c.loop-now.frames) < 251 - c.args.depth = omega (arith, length-drop c.args.base c.loop-now.frames, c.loop-now.invariant.depth, (rw c.in-Open.is at c.loop-now.invariant.now).0, c.loop-now.invariant.base) in
    rw (c.first_step.ensures, c.in-Open.is, c.opened-frame.ensures.begin, c.in_ok-push-in-Open.ensures, drop-append-le c.args.base c.loop-now.frames (f ∷ []) c.loop-now.invariant.base)
    (first_less (2 ^ 64) (251 - c.args.depth) S (drop c.args.base c.loop-now.frames ++ f ∷ []) (length (block_of c.inside.result)) 0 c.opened-frame.new.level.depth _ (opens (2 ^ 64) (251 - c.args.depth) S (drop c.args.base c.loop-now.frames) B c.loop-now.level.at (Open c.in-Open.waits c.in-Open.first c.in-Open.second) f
    (length (block_of c.inside.result)) few same fewer (omega (arith, few_lines c.inside.result))))

pub loop-now-preserved-in_ok-push-in-Open : goal.loop-now-preserved-in_ok-push-in-Open
loop-now-preserved-in_ok-push-in-Open c =
    let S : Block = source_of c.args.whole.now in
    let B : Block = block_of c.loop-now.view in
    let f : Frame = c.opened-frame.result in
    let same : placement_block S f.placement ≡ B = ap (λ (T : Block). placement_block T f.placement) (sym c.loop-now.invariant.text) ∙ c.opened-frame.ensures.block in
    let low = (rw c.in-Open.is at c.loop-now.invariant.now).0 in
    let new : OpenBlock = c.opened-frame.new.level in
    let X : Block = block_of c.inside.result in
    let on = placed (source_of c.args.whole.now) c.args.base c.loop-now.frames f c.loop-now.invariant.base c.loop-now.invariant.waiting (rw c.loop-now.invariant.text at c.opened-frame.ensures.frame) in
    record {
      base = rw c.in_ok-push-in-Open.ensures on.0;
      under = c.loop-now.invariant.under;
      room = rw c.in_ok-push-in-Open.ensures (omega (arith, length-append c.loop-now.frames (f ∷ []), c.loop-now.invariant.depth, low, c.loop-now.invariant.base));
      outer = rw c.in_ok-push-in-Open.ensures (on.2 ∙ c.loop-now.invariant.outer);
      waiting = rw c.in_ok-push-in-Open.ensures on.3;
      text = c.inside.ensures.text ∙ c.loop-now.invariant.text;
      now = rw c.first_step.ensures (first_now X new c.opened-frame.ensures.begun (omega (arith, c.opened-frame.ensures.depth, c.len.ensures, c.loop-now.invariant.depth, low)));
      depth = rw c.in_ok-push-in-Open.ensures (omega (arith, length-append c.loop-now.frames (f ∷ []), c.len.ensures, c.opened-frame.ensures.depth, c.loop-now.invariant.base));
      nested = rw (c.in_ok-push-in-Open.ensures, on.1) (nested_push c.args.depth (drop c.args.base c.loop-now.frames) f c.loop-now.invariant.nested
          (ap (λ (l : OpenBlock). l.depth) c.opened-frame.ensures.kept ∙ c.loop-now.invariant.depth ∙ ap (λ n. c.args.depth + n) (sym (length-drop c.args.base c.loop-now.frames))));
      read = rw (c.first_step.ensures, c.in_ok-push-in-Open.ensures, on.1) (
          plug_goes_on S (drop c.args.base c.loop-now.frames ++ f ∷ []) (comes new X (first_step new.depth)) (comes new X Begin) c.loop-now.pass.numbers c.loop-now.pass.numbers _
          (first_comes new X c.loop-now.pass.numbers c.opened-frame.ensures.begun) (plug_opens S (drop c.args.base c.loop-now.frames) f c.loop-now.level c.opened-frame.new.level B (block_of c.inside.result) c.in-Open.waits c.in-Open.first c.in-Open.second c.loop-now.pass.numbers
          c.opened-frame.ensures.kept same c.opened-frame.ensures.waits.0 c.opened-frame.ensures.waits.1 c.opened-frame.ensures.waits.2 c.inside.ensures.block
          (omega (arith, c.opened-frame.ensures.depth, c.loop-now.invariant.depth, c.len.ensures, c.loop-now.invariant.base)) low
          ∙ rw c.in-Open.is at c.loop-now.invariant.read));
      paid = rw (c.first_step.ensures, c.in_ok-push-in-Open.ensures, on.1) (
          block_goes_on _ _ S (drop c.args.base c.loop-now.frames ++ f ∷ []) new new X Begin (first_step new.depth) _ _ _ (block_opens _ _ S (drop c.args.base c.loop-now.frames) f c.loop-now.level c.opened-frame.new.level B (block_of c.inside.result) c.in-Open.waits c.in-Open.first c.in-Open.second _ _
          c.opened-frame.ensures.kept same c.opened-frame.ensures.waits.0 c.opened-frame.ensures.waits.1 c.inside.ensures.block
          (omega (arith, c.opened-frame.ensures.depth, c.loop-now.invariant.depth, c.len.ensures, c.loop-now.invariant.base))
          (rw c.in-Open.is at c.loop-now.invariant.paid)) (first_paid new X _ c.opened-frame.ensures.begun));
      less = still (loop-now-smaller-in_ok-push-in-Open c) c.loop-now.invariant.less;
    }

pub loop-now-smaller-in_ok-push-in-Waiting : goal.loop-now-smaller-in_ok-push-in-Waiting
loop-now-smaller-in_ok-push-in-Waiting c =
    let S : Block = source_of c.args.whole.now in
    let f : Frame = c.in-Some.frame in
    let g : Frame = c.in-Waiting.frame in
    let some : c.args.base < length c.loop-now.frames = c.in-Some.ensures.some.1 in
    let off = taken S c.args.base c.loop-now.frames c.pop.new.self f c.in-Some.ensures.some.0 some c.loop-now.invariant.waiting in
    let e = rw c.in-Waiting.is at c.in_ok-frame-in-Some.ensures.ended in
    let lines : length (placement_block S g.placement) ≡ length (placement_block S f.placement) = ap (λ p. length (placement_block S p)) e.1 in
    let fewer : left S g < left S f = omega (arith, lines, e.2, ap parts_left e.3, second_left f.second e.4) in
    let few : length (drop c.args.base c.pop.new.self) < 251 - c.args.depth = omega (arith, length-drop c.args.base c.pop.new.self, ap length c.in-Some.ensures.some.0, length-append c.pop.new.self (f ∷ []), c.loop-now.invariant.room, some) in
    rw (c.first_step-in-Waiting.ensures, e.6, c.in_ok-push-in-Waiting.ensures, drop-append-le c.args.base c.pop.new.self (g ∷ []) off.0, off.1)
    (first_less (2 ^ 64) (251 - c.args.depth) S (drop c.args.base c.pop.new.self ++ g ∷ []) (length (block_of c.in-Waiting.part)) 0 c.closed.new.level.depth _ (waits_again (2 ^ 64) (251 - c.args.depth) S (drop c.args.base c.pop.new.self) f g (length (block_of c.loop-now.view)) c.loop-now.level.at (length (block_of c.in-Waiting.part)) c.loop-now.now
    few fewer (omega (arith, few_lines c.in-Waiting.part))))

pub loop-now-preserved-in_ok-push-in-Waiting : goal.loop-now-preserved-in_ok-push-in-Waiting
loop-now-preserved-in_ok-push-in-Waiting c =
    let S : Block = source_of c.args.whole.now in
    let f : Frame = c.in-Some.frame in
    let g : Frame = c.in-Waiting.frame in
    let off = taken S c.args.base c.loop-now.frames c.pop.new.self f c.in-Some.ensures.some.0 c.in-Some.ensures.some.1 c.loop-now.invariant.waiting in
    let e = rw c.in-Waiting.is at c.in_ok-frame-in-Some.ensures.ended in
    let keeps = rw c.in-Waiting.is at c.in_ok-frame-in-Some.ensures.kept in
    let fs : List Frame = drop c.args.base c.pop.new.self in
    let nest = nested_pop c.args.depth fs f (rw off.1 at c.loop-now.invariant.nested) in
    let long : length fs + 1 ≡ length c.loop-now.frames - c.args.base = omega (arith, length-drop c.args.base c.pop.new.self, ap length c.in-Some.ensures.some.0, length-append c.pop.new.self (f ∷ []), off.0) in
    let on = placed S c.args.base c.pop.new.self g off.0 off.3 e.0 in
    let new : OpenBlock = c.closed.new.level in
    let X : Block = block_of c.in-Waiting.part in
    record {
      base = rw c.in_ok-push-in-Waiting.ensures on.0;
      under = c.loop-now.invariant.under;
      room = rw c.in_ok-push-in-Waiting.ensures (omega (arith, ap length c.in-Some.ensures.some.0, length-append c.pop.new.self (f ∷ []), length-append c.pop.new.self (g ∷ []), c.loop-now.invariant.room));
      outer = rw c.in_ok-push-in-Waiting.ensures (on.2 ∙ sym off.2 ∙ c.loop-now.invariant.outer);
      waiting = rw c.in_ok-push-in-Waiting.ensures on.3;
      text = e.5;
      now = rw c.first_step-in-Waiting.ensures (first_now X new keeps.1 (omega (arith, keeps.2, c.len.ensures, c.loop-now.invariant.room)));
      depth = rw c.in_ok-push-in-Waiting.ensures (omega (arith, length-append c.pop.new.self (g ∷ []), ap length c.in-Some.ensures.some.0, length-append c.pop.new.self (f ∷ []), c.len.ensures, keeps.2, c.loop-now.invariant.base, off.0));
      nested = rw (c.in_ok-push-in-Waiting.ensures, on.1) (nested_push c.args.depth fs g nest.0 (ap (λ (l : OpenBlock). l.depth) keeps.0 ∙ nest.1));
      read = rw (c.first_step-in-Waiting.ensures, c.in_ok-push-in-Waiting.ensures, on.1) (
          plug_goes_on S (fs ++ g ∷ []) (comes new X (first_step new.depth)) (comes new X Begin) c.closed.new.pass.numbers c.closed.new.pass.numbers _
          (first_comes new X c.closed.new.pass.numbers keeps.1) (plug_waits S fs f g c.loop-now.level c.closed.new.level c.in-Waiting.part c.closed.new.pass.numbers c.loop-now.pass.numbers _
          (rw c.in-Waiting.is at c.in_ok-frame-in-Some.ensures.read)
          (omega (arith, keeps.2, ap (λ (l : OpenBlock). l.depth) keeps.0, nest.1, long, c.len.ensures))
          (omega (arith, ap (λ (l : OpenBlock). l.depth) keeps.0, nest.1, long, c.loop-now.invariant.room))
          (rw (c.in-Done.is, off.1) at c.loop-now.invariant.read)));
      paid = rw (c.first_step-in-Waiting.ensures, c.in_ok-push-in-Waiting.ensures, on.1) (
          block_goes_on _ _ S (fs ++ g ∷ []) new new X Begin (first_step new.depth) _ _ _ (block_waits _ _ S fs f g c.loop-now.level c.closed.new.level (block_of c.loop-now.view) (block_of c.in-Waiting.part) _ _ _ (rw (c.in-Done.is, off.1) at c.loop-now.invariant.paid)
          (rw c.in-Waiting.is at c.in_ok-frame-in-Some.ensures.paid)) (first_paid new X _ keeps.1));
      less = still (loop-now-smaller-in_ok-push-in-Waiting c) c.loop-now.invariant.less;
    }

pub loop-now-smaller : goal.loop-now-smaller
loop-now-smaller c =
    let S : Block = source_of c.args.whole.now in
    let f : Frame = c.in-Some.frame in
    let some : c.args.base < length c.loop-now.frames = c.in-Some.ensures.some.1 in
    let off = taken S c.args.base c.loop-now.frames c.pop.new.self f c.in-Some.ensures.some.0 some c.loop-now.invariant.waiting in
    let e = rw c.in-GoesOn.is at c.in_ok-frame-in-Some.ensures.ended in
    let v = c.in-GoesOn.outer in
    let few : length (drop c.args.base c.pop.new.self) < 251 - c.args.depth = omega (arith, length-drop c.args.base c.pop.new.self, ap length c.in-Some.ensures.some.0, length-append c.pop.new.self (f ∷ []), c.loop-now.invariant.room, some) in
    rw off.1 (resumes (2 ^ 64) (251 - c.args.depth) S (drop c.args.base c.pop.new.self) f (length (block_of c.loop-now.view)) c.loop-now.level.at (length (block_of v)) c.closed.new.level.at
    c.loop-now.now c.in-GoesOn.next few
    (omega (arith, cost_of_resumed (block_of v) f.level.at c.closed.new.level.at c.in-GoesOn.next e.2, ap length e.1, parts_at_least f.second)))

pub loop-now-preserved : goal.loop-now-preserved
loop-now-preserved c =
    let S : Block = source_of c.args.whole.now in
    let f : Frame = c.in-Some.frame in
    let off = taken S c.args.base c.loop-now.frames c.pop.new.self f c.in-Some.ensures.some.0 c.in-Some.ensures.some.1 c.loop-now.invariant.waiting in
    let e = rw c.in-GoesOn.is at c.in_ok-frame-in-Some.ensures.ended in
    let keeps = rw c.in-GoesOn.is at c.in_ok-frame-in-Some.ensures.kept in
    let fs : List Frame = drop c.args.base c.pop.new.self in
    let nest = nested_pop c.args.depth fs f (rw off.1 at c.loop-now.invariant.nested) in
    record {
      base = off.0;
      under = c.loop-now.invariant.under;
      room = omega (arith, ap length c.in-Some.ensures.some.0, length-append c.pop.new.self (f ∷ []), c.loop-now.invariant.room);
      outer = sym off.2 ∙ c.loop-now.invariant.outer;
      waiting = off.3;
      text = e.0;
      now = now_of_resumed (block_of c.in-GoesOn.outer) f.level.at c.closed.new.level c.in-GoesOn.next (omega (arith, keeps, nest.1, length-drop c.args.base c.pop.new.self, off.0, ap length c.in-Some.ensures.some.0, length-append c.pop.new.self (f ∷ []), c.loop-now.invariant.room)) e.2;
      depth = omega (arith, keeps, nest.1, length-drop c.args.base c.pop.new.self, off.0);
      nested = nest.0;
      read = plug_ends S fs f c.loop-now.level c.closed.new.level c.in-GoesOn.outer c.in-GoesOn.next c.closed.new.pass.numbers c.loop-now.pass.numbers _
          (rw c.in-GoesOn.is at c.in_ok-frame-in-Some.ensures.read) (rw (c.in-Done.is, off.1) at c.loop-now.invariant.read);
      paid = block_ends _ _ S fs f c.loop-now.level c.closed.new.level (block_of c.loop-now.view) (block_of c.in-GoesOn.outer) c.in-GoesOn.next _ _ _ (rw (c.in-Done.is, off.1) at c.loop-now.invariant.paid)
          (rw c.in-GoesOn.is at c.in_ok-frame-in-Some.ensures.paid);
      less = still (loop-now-smaller c) c.loop-now.invariant.less;
    }

pub loop-now-preserved-in_ok-now-in-Begin : goal.loop-now-preserved-in_ok-now-in-Begin
loop-now-preserved-in_ok-now-in-Begin c =
    let S : Block = source_of c.args.whole.now in
    let B : Block = block_of c.loop-now.view in
    let s : Step = c.in_ok-now-in-Begin.now in
    record {
      base = c.loop-now.invariant.base;
      under = c.loop-now.invariant.under;
      room = c.loop-now.invariant.room;
      outer = c.loop-now.invariant.outer;
      waiting = c.loop-now.invariant.waiting;
      text = c.loop-now.invariant.text;
      now = c.in_ok-now-in-Begin.ensures.now;
      depth = c.loop-now.invariant.depth;
      nested = c.loop-now.invariant.nested;
      read = plug_goes_on S (drop c.args.base c.loop-now.frames) (comes c.loop-now.level B s) (comes c.loop-now.level B Begin) c.begin.new.pass.numbers c.loop-now.pass.numbers
          _ c.in_ok-now-in-Begin.ensures.goes.read (rw c.in-Begin.is at c.loop-now.invariant.read);
      paid = block_goes_on _ _ S (drop c.args.base c.loop-now.frames) c.loop-now.level c.loop-now.level B Begin s _ _ _ (rw c.in-Begin.is at c.loop-now.invariant.paid) c.in_ok-now-in-Begin.ensures.goes.paid;
      less = still (loop-now-smaller-in_ok-now-in-Begin c) c.loop-now.invariant.less;
    }

pub loop-now-preserved-in_ok-now-in-Next : goal.loop-now-preserved-in_ok-now-in-Next
loop-now-preserved-in_ok-now-in-Next c =
    let S : Block = source_of c.args.whole.now in
    let B : Block = block_of c.loop-now.view in
    let s : Step = c.in_ok-now-in-Next.now in
    record {
      base = c.loop-now.invariant.base;
      under = c.loop-now.invariant.under;
      room = c.loop-now.invariant.room;
      outer = c.loop-now.invariant.outer;
      waiting = c.loop-now.invariant.waiting;
      text = c.loop-now.invariant.text;
      now = now_of_next B c.loop-now.level.at c.next.new.level s (omega (arith, c.in_ok-now-in-Next.ensures.goes.kept, rw c.in-Next.is at c.loop-now.invariant.now)) c.in_ok-now-in-Next.ensures.next;
      depth = c.in_ok-now-in-Next.ensures.goes.kept ∙ c.loop-now.invariant.depth;
      nested = c.loop-now.invariant.nested;
      read = plug_goes_on S (drop c.args.base c.loop-now.frames) (comes c.next.new.level B s) (reads c.loop-now.level B) c.next.new.pass.numbers c.loop-now.pass.numbers
          _ c.in_ok-now-in-Next.ensures.goes.read (rw c.in-Next.is at c.loop-now.invariant.read);
      paid = block_goes_on _ _ S (drop c.args.base c.loop-now.frames) c.loop-now.level c.next.new.level B Next s _ _ _ (rw c.in-Next.is at c.loop-now.invariant.paid) c.in_ok-now-in-Next.ensures.goes.paid;
      less = still (loop-now-smaller-in_ok-now-in-Next c) c.loop-now.invariant.less;
    }

pub returns-in_err-now-in-Begin-clause-read : goal.returns-in_err-now-in-Begin-clause-read
returns-in_err-now-in-Begin-clause-read c =
    refuses _ c.in_err-now-in-Begin.field-0.0 _ _ (search rules)
    (plug_fails (source_of c.args.whole.now) (drop c.args.base c.loop-now.frames) (comes c.loop-now.level (block_of c.loop-now.view) Begin) c.loop-now.pass.numbers
    _ c.in_err-now-in-Begin.field-0.0 _ _ (rw c.in-Begin.is at c.loop-now.invariant.read) c.in_err-now-in-Begin.ensures.goes.read)

pub returns-in_err-now-in-Next-clause-read : goal.returns-in_err-now-in-Next-clause-read
returns-in_err-now-in-Next-clause-read c =
    refuses _ c.in_err-now-in-Next.field-0.0 _ _ (search rules)
    (plug_fails (source_of c.args.whole.now) (drop c.args.base c.loop-now.frames) (reads c.loop-now.level (block_of c.loop-now.view)) c.loop-now.pass.numbers
    _ c.in_err-now-in-Next.field-0.0 _ _ (rw c.in-Next.is at c.loop-now.invariant.read) c.in_err-now-in-Next.ensures.goes.read)

pub returns-in_err-frame-in-Some-clause-read : goal.returns-in_err-frame-in-Some-clause-read
returns-in_err-frame-in-Some-clause-read c =
    let off = taken (source_of c.args.whole.now) c.args.base c.loop-now.frames c.pop.new.self c.in-Some.frame c.in-Some.ensures.some.0 c.in-Some.ensures.some.1 c.loop-now.invariant.waiting in
    refuses _ c.in_err-frame-in-Some.field-0.0 _ _ (search rules)
    (plug_end_fails (source_of c.args.whole.now) (drop c.args.base c.pop.new.self) c.in-Some.frame c.loop-now.level c.loop-now.pass.numbers
    _ c.in_err-frame-in-Some.field-0.0 _ _ (rw (c.in-Done.is, off.1) at c.loop-now.invariant.read) c.in_err-frame-in-Some.ensures.read)

pub loop-now-init : goal.loop-now-init
loop-now-init c =
    let h = c.requires.reading in
    let first = c.first_step-now.ensures in
    record {
      base = h.base;
      under = h.under;
      room = h.room;
      outer = refl;
      waiting = h.waiting;
      text = h.text;
      now = rw first h.now;
      depth = h.depth;
      nested = h.nested;
      read = rw first refl;
      paid = rw first (takes_none _ _ _);
      less = rw first (omega arith);
    }

pub returns-in-Cells : goal.returns-in-Cells
returns-in-Cells c =
    let h = c.loop-now.invariant in
    record {
      reading = record { base = h.base; under = h.under; room = h.room; waiting = h.waiting; text = h.text; now = rw c.in-Cells.is at h.now; depth = h.depth; nested = h.nested };
      outer = h.outer;
      last = tt;
      less = rw c.in-Cells.is at h.less;
      read = rw c.in-Cells.is at h.read;
      paid = rw c.in-Cells.is at h.paid;
    }

pub returns-in-None : goal.returns-in-None
returns-in-None c =
    let h = c.loop-now.invariant in
    let same = c.in-None.ensures.none.0 in
    record {
      reading = rw same (record { base = h.base; under = h.under; room = h.room; waiting = h.waiting; text = h.text; now = tt; depth = h.depth; nested = h.nested });
      outer = rw same h.outer;
      last = rw same c.in-None.ensures.none.1;
      less = rw same (rw c.in-Done.is at h.less);
      read = rw same (rw c.in-Done.is at h.read);
      paid = rw same (rw c.in-Done.is at h.paid);
    }
