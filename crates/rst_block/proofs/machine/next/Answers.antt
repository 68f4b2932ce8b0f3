use Rattle.std.proofs.Common.{◌≡◌, ◌+◌, ◌<◌, ◌≤◌, suc, [], ◌∷◌, length, drop, length-drop, arith, rules, refl, sym, subst, ap, ◌∙◌}
use Rattle.std.proofs.lemmas.List.{drop-drop}
use Rattle.std.proofs.lemmas.Result.{IfOk-weaker}
use Rattle.std.specs.Prelude.{◌≢◌, Result, Ok, IfOk}
use Rattle.rst_text.specs.Block.{Block}
use Rattle.rst_text.specs.ViewBlock.{block_of}
use Rattle.rst_markup_blocks.specs.declared.begun.Begun.{Begun}
use Rattle.rst_markup_blocks.specs.declared.begun.Begun.TheVariants.{Blank, Text}
use Rattle.rst_markup_blocks.specs.Begun.{IsBegun}
use Rattle.rst_markup_blocks.specs.Lines.{lines_while}
use Rattle.rst_markup_blocks.specs.declared.kind.Kind.TheVariants as kinds
use Rattle.rst_markup_blocks.specs.declared.lines.LineTest.TheVariants.{Blank as BlankTest}
use Rattle.rst_markup_blocks.proofs.RowLemmas.{row_at}
use Rattle.rst_block_nodes.specs.declared.fault.BlockFault.{BlockFault}
use Rattle.rst_block_state.specs.looks.Ledger.{most_left, least_left, Takes}
use Rattle.rst_block_state.specs.machine.Meanings.{Keeps, comes, reads}
use Rattle.rst_block_state.specs.declared.open_block.OpenBlock.{OpenBlock}
use Rattle.rst_block_state.specs.declared.step.Step.{Step}
use Rattle.rst_block_state.specs.declared.step.Step.TheVariants.{Next}
use Rattle.rst_block_state.specs.declared.texts.Pass.{Pass}
use Rattle.rst_block_state.proofs.Calls.{close_refuses}
use Rattle.rst_block_state.proofs.LedgerLemmas.{blank_lines, ended}
use Rattle.rst_block_state.proofs.NextConstructs.{IsFilled, are_blank, blank_reads, has_ended, next_of, over_reads, over_refused}
use Rattle.rst_block.specs.Reading.{ContinuesFrom}
use Rattle.rst_block.proofs.Stack.{next_of_step}
use Rattle.rst_block.proofs.Waiting.{stops}
use Rattle.rst_block_body.proofs.ReadLemmas.{text_read}
use Rattle.rst_block_body.proofs.StepsPaid.{step_taken, text_taken, takes_then, takes_none}
use Rattle.rst_block.proofs.machine.next.Goals as goal

pub loop-level-init : goal.loop-level-init
loop-level-init c = record { on = omega arith; depth = refl; reads = refl; takes = takes_none _ _ _ }

-- a line that is blank is passed, and those after it
blank_more : (X : Block) → 1 ≤ length X → IsBegun X Blank → lines_while BlankTest X ≡ suc (lines_while BlankTest (drop 1 X))
unfolding lines_while
blank_more [] some h = absurd (omega arith)
blank_more (l ∷ ls) some h = rw (row_at kinds.Blank (l ∷ ls) h.kind) refl

pub loop-level-preserved-in-Blank : goal.loop-level-preserved-in-Blank
loop-level-preserved-in-Blank c =
    let B : Block = block_of c.args.view.now in
    let old = c.loop-level.level in
    let at = old.at in
    let inside : at < length B = omega (arith, c.loop-level-test.true, c.len.ensures) in
    let rest_of_block : drop 1 (drop at B) ≡ drop (at + 1) B = drop-drop 1 at B ∙ ap (λ i. drop i B) (omega arith) in
    let all : lines_while BlankTest (drop at B) ≡ suc (lines_while BlankTest (drop (at + 1) B)) =
    blank_more (drop at B) (omega (arith, length-drop at B, inside)) c.in-Blank.ensures.begun ∙ ap (λ X. suc (lines_while BlankTest X)) rest_of_block in
    let there = c.go_to.ensures.there (omega (arith, c.lines_end.ensures.end)) in
    let end : c.go_to.new.self.at ≡ at + lines_while BlankTest (drop at B) = omega (arith, there, c.lines_end.ensures.end, all) in
    let moved = c.go_to.ensures.moved in
    record {
      on = omega (arith, c.loop-level.invariant.on, c.go_to.ensures.later);
      depth = moved.depth ∙ c.loop-level.invariant.depth;
      reads = blank_reads B c.loop-level.pass.numbers moved (omega (arith, end)) end ∙ c.loop-level.invariant.reads;
      takes = takes_then c.loop-level.invariant.takes (blank_lines old c.go_to.new.self B _ _ (omega (arith, end)) (omega (arith, there, c.lines_end.ensures.within)) (rw end (are_blank B at)) moved.depth moved.run
          (omega (arith, end, all, c.begun_at.ensures.looked.1, c.lines_end.ensures.looked.1)) (omega (arith, end, all, c.begun_at.ensures.looked.0, c.lines_end.ensures.looked.0)));
    }

pub title_or_paragraph-requires : goal.title_or_paragraph-requires
title_or_paragraph-requires c = record {
  inside = omega (arith, c.loop-level-test.true, c.len.ensures);
  text = rw c.new-in_default-text_form_at.ensures.items (next_of Text c.loop-level.level (block_of c.args.view.now) c.in-Text.ensures.begun tt);
  form = sym c.text_form_at.ensures.form;
  flat = c.in_default-text_form_at.not-Definition;
}

-- a title or a paragraph is read
pub loop-level-preserved : goal.loop-level-preserved
loop-level-preserved c =
    let B : Block = block_of c.args.view.now in
    let P = c.loop-level.pass in
    let inside : c.loop-level.level.at < length B = omega (arith, c.loop-level-test.true, c.len.ensures) in
    let there = text_read {before = record P { looks = c.begun_at.new.looks }} {mid = record P { looks = c.text_form_at.new.looks }} c.in_ok-title_or_paragraph-in_default-text_form_at.ensures inside refl c.text_form_at.ensures.looked in
    record {
      on = omega (arith, c.loop-level.invariant.on, there.step);
      depth = there.paid.depth ∙ c.loop-level.invariant.depth;
      reads = there.read ∙ c.loop-level.invariant.reads;
      takes = takes_then c.loop-level.invariant.takes (text_taken _ _ B _ _ _ (Ok Next) inside c.in-Text.ensures.begun c.begun_at.ensures.looked.0 c.begun_at.ensures.looked.1 there.paid);
    }

-- what a step leads to that is taken after lines that were read
continues : {B : Block} {first new : OpenBlock} {before after : Pass} (old : OpenBlock) (mid : Pass) (result : Result Step BlockFault) → old.depth ≡ first.depth → reads old B mid.numbers ≡ reads first B before.numbers
    → Takes (most_left first B Next) (least_left first B Next) before.looks (most_left old B Next) (least_left old B Next) mid.looks → IfOk result (λ _. new.depth ≡ old.depth)
    → Keeps result (λ s. comes new B s after.numbers) (reads old B mid.numbers) → IfOk result (λ s. Takes (most_left old B Next) (least_left old B Next) mid.looks (most_left new B s) (least_left new B s) after.looks)
    → ContinuesFrom B first Next before new after result
continues {B} {new = new} {after = after} old mid result depth same taken kept read paid = record {
  kept = IfOk-weaker result _ _ (λ _ h. h ∙ depth) kept;
  read = subst (λ given. Keeps result (λ s. comes new B s after.numbers) given) same read;
  paid = IfOk-weaker result _ _ (λ _ h. takes_then taken h) paid;
}

pub definition-requires-clause-text : goal.definition-requires-clause-text
definition-requires-clause-text c = rw c.new.ensures.items (next_of Text c.loop-level.level (block_of c.args.view.now) c.in-Text.ensures.begun tt)

pub returns-in-Definition-clause-goes : goal.returns-in-Definition-clause-goes
returns-in-Definition-clause-goes c =
    let B : Block = block_of c.args.view.now in
    let P = c.loop-level.pass in
    let l = c.loop-level.level in
    let result = c.definition.result in
    let inside : l.at < length B = omega (arith, c.loop-level-test.true, c.len.ensures) in
    let there = text_read {before = record P { looks = c.begun_at.new.looks }} {mid = record P { looks = c.text_form_at.new.looks }} c.definition.ensures inside refl c.text_form_at.ensures.looked in
    continues l P result c.loop-level.invariant.depth c.loop-level.invariant.reads c.loop-level.invariant.takes (IfOk-weaker result _ _ (λ _ h. h.depth) there.paid) there.read
    (text_taken _ _ B _ _ _ result inside c.in-Text.ensures.begun c.begun_at.ensures.looked.0 c.begun_at.ensures.looked.1 there.paid)

-- what begins at a line that isn't blank
filled : (begun : Begun) → begun ≢ Blank → IsFilled begun
filled Blank h = h refl
filled _ h = tt

pub returns-in_default : goal.returns-in_default
returns-in_default c =
    let B : Block = block_of c.args.view.now in
    let l = c.loop-level.level in
    let there = c.marked_step.ensures in
    let result = c.marked_step.result in
    let inside : l.at < length B = omega (arith, c.loop-level-test.true, c.len.ensures) in
    record {
      next = IfOk-weaker result _ _ (λ s h. next_of_step B c.args.level.now.at l.at c.marked_step.new.level.at s c.loop-level.invariant.on inside h) there.step;
      goes = continues l c.loop-level.pass result c.loop-level.invariant.depth c.loop-level.invariant.reads c.loop-level.invariant.takes (IfOk-weaker result _ _ (λ _ h. h.depth) there.paid) there.read
          (step_taken c.begun_at.result _ _ B _ _ _ result inside c.begun_at.ensures.begun (filled c.begun_at.result (search rules)) c.begun_at.ensures.looked.0 c.begun_at.ensures.looked.1 there.paid);
    }

pub returns-in_err-close-clause-goes : goal.returns-in_err-close-clause-goes
returns-in_err-close-clause-goes c =
    stops c.in_err-close.field-0.0 (search rules) (close_refuses _ c.in_err-close.field-0.0 _ _ _ c.loop-level.level refl c.in_err-close.ensures.closed
    (λ line h. sym c.loop-level.invariant.reads ∙ over_refused c.loop-level.level (block_of c.args.view.now) c.loop-level.pass.numbers line (omega arith) h))

pub returns-clause-goes : goal.returns-clause-goes
returns-clause-goes c =
    let B = block_of c.args.view.now in
    let closed = c.in_ok-close.ensures.closed in
    record {
      kept = closed.depth ∙ c.loop-level.invariant.depth;
      read = over_reads (has_ended B c.loop-level.pass.numbers closed) (omega arith) ∙ c.loop-level.invariant.reads;
      paid = takes_then c.loop-level.invariant.takes (ended c.loop-level.level B _ _ (omega arith) c.close.ensures.run c.close.ensures.low);
    }
