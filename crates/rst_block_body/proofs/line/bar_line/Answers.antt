use Rattle.std.proofs.Common.{◌≡◌, ℕ, ◌+◌, ◌<◌, [], drop, unwrap_or, arith, rules, refl, sym, subst, ◌∙◌, ap}
use Rattle.rst_text.specs.ViewBlock.{block_of}
use Rattle.rst_markup_blocks.specs.declared.begun.Begun.TheVariants.{Line}
use Rattle.rst_markup_blocks.specs.Sizes.{indented_size}
use Rattle.rst_block_nodes.specs.LineBlocks.{indented_by, indented}
use Rattle.rst_block_state.specs.LineRuns.{indentation_of, indented_line}
use Rattle.rst_block_state.specs.machine.Meanings.{open_run_of, reads}
use Rattle.rst_block_state.specs.machine.OpenBlocks.{HasRun, HasLine, line_added}
use Rattle.rst_block_state.specs.machine.Rest.{open_lines}
use Rattle.rst_block_state.specs.declared.open_block.OpenBlock.{OpenBlock}
use Rattle.rst_block_state.specs.declared.run.Run.TheVariants.{Lines}
use Rattle.rst_block_body.proofs.LineSteps.{line_refused, line_joined, line_begun}
use Rattle.rst_block_body.proofs.LinesPaid.{line_paid}
use Rattle.rst_block_body.proofs.ReadLemmas.{close_refuses}
use Rattle.rst_block_state.proofs.NextConstructs.{next_of, next_some, span_to, has_ended}
use Rattle.rst_block_body.proofs.line.bar_line.Goals as goal

pub returns-in_err-close : goal.returns-in_err-close
returns-in_err-close c =
    let B = block_of c.args.view.now in
    let l = c.args.level.now in
    close_refuses c.in_err-close.field-0.0 (search rules) c.in_err-close.ensures.closed
    (λ line h. sym (ap (reads l B) c.in_ok-text.ensures.numbers) ∙ line_refused _ (search rules) (next_of (Line c.args.marker) l B c.requires.begun tt) h)

pub returns-then-matches : goal.returns-then-matches
returns-then-matches c =
    let B = block_of c.args.view.now in
    let l = c.args.level.now in
    let m = c.args.marker in
    let new = c.add_line.new.level in
    let bar = c.in_ok-text.text in
    let lines : ℕ = indented_size (drop l.at B) in
    let stop : c.indented_end-end.result ≡ l.at + lines = c.indented_end-end.ensures.end in
    let next = next_of (Line m) l B c.requires.begun tt in
    let some : l.at < l.at + lines = next_some next c.requires.inside in
    let line : (last : ℕ) → indented_by (unwrap_or bar.indent last) bar ≡ indented_line (indentation_of last m) B m (span_to l.at (l.at + lines)) =
    λ last. c.in_ok-text.ensures.line last ∙ ap (λ i. indented_line (indentation_of last m) B m (span_to l.at i)) stop in
    let put = c.in_ok-add_line.ensures.line in
    record {
      step = search rules;
      read = ap (reads new B) c.in_ok-text.ensures.numbers
          ∙ line_joined bar c.args.pass.now.numbers (search rules) next line
          (subst (λ i. HasLine l new (line_added bar i (open_run_of l.run))) stop put.0) (put.1 (omega (arith, stop, some)) ∙ stop);
      paid = line_paid c.indented_end-end.result _ _ _ _ c.requires.inside c.requires.begun stop put.0.depth put.1 c.indented_end-end.ensures.looked
          c.in_ok-text.ensures.looked (omega arith) (omega arith);
    }

pub returns : goal.returns
returns c =
    let B = block_of c.args.view.now in
    let l = c.args.level.now in
    let m = c.args.marker in
    let mid = c.close.new.self in
    let new = c.add_line-2.new.level in
    let opened : OpenBlock = record mid { run = Lines c.new.result l.at; untitled = c.level-1.given.0 } in
    let run : HasRun mid opened (open_lines l.at []) = record { depth = refl; at = refl; nodes = refl; headings = refl; run = ap (λ bars. open_lines l.at (indented bars)) c.new.ensures.items } in
    let bar = c.in_ok-text.text in
    let lines : ℕ = indented_size (drop l.at B) in
    let stop : c.indented_end-end.result ≡ l.at + lines = c.indented_end-end.ensures.end in
    let next = next_of (Line m) l B c.requires.begun tt in
    let some : l.at < l.at + lines = next_some next c.requires.inside in
    let line : (last : ℕ) → indented_by (unwrap_or bar.indent last) bar ≡ indented_line (indentation_of last m) B m (span_to l.at (l.at + lines)) =
    λ last. c.in_ok-text.ensures.line last ∙ ap (λ i. indented_line (indentation_of last m) B m (span_to l.at i)) stop in
    let closed = c.in_ok-close.ensures.closed in
    let put = c.in_ok-add_line-2.ensures.line in
    record {
      step = search rules;
      read = line_begun opened bar l.at (search rules) next line (has_ended B _ closed) run
          (subst (λ i. HasLine opened new (line_added bar i (open_run_of opened.run))) stop put.0) (put.1 (omega (arith, stop, some, c.close.ensures.at)) ∙ stop)
          ∙ ap (reads l B) c.in_ok-text.ensures.numbers;
      paid = line_paid c.indented_end-end.result _ _ _ _ c.requires.inside c.requires.begun stop (put.0.depth ∙ closed.depth) (λ gone. put.1 (omega (arith, c.close.ensures.at, gone)))
          c.indented_end-end.ensures.looked c.in_ok-text.ensures.looked c.close.ensures.run c.close.ensures.low;
    }
