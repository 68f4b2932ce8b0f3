use Rattle.std.proofs.Common.{◌≡◌, ℕ, ◌+◌, arith, rules, subst, ◌∙◌, ap}
use Rattle.rst_text.specs.Block.{Block}
use Rattle.rst_text.specs.ViewBlock.{block_of}
use Rattle.rst_markup_tables.specs.declared.results.TableResult.TheVariants.{Malformed}
use Rattle.rst_block_state.specs.machine.Meanings.{reads}
use Rattle.rst_block_state.specs.machine.NextLine.{IsTableAt}
use Rattle.rst_block_state.proofs.Calls.{close_refuses}
use Rattle.rst_block_state.proofs.Changes.{more_more, moved_more}
use Rattle.rst_block_state.proofs.NextConstructs.{next_some, has_ended, next_refused}
use Rattle.rst_block_body.proofs.StepsPaid.{malformed_paid, cells_paid}
use Rattle.rst_block_body.proofs.TableSteps.{IsNextTable, next_table, table_comes, malformed_reads, table_steps}
use Rattle.rst_block_body.proofs.table.table.Goals as goal

pub returns-in_err-close-clause-read : goal.returns-in_err-close-clause-read
returns-in_err-close-clause-read c =
    let B : Block = block_of c.args.view.now in
    let l = c.args.level.now in
    let t = next_table l B c.args.found c.requires.table in
    close_refuses c.from_residual.result c.in_err-close.field-0.0 _ _ _ l (search rules) c.in_err-close.ensures.closed (λ line h. next_refused _ t.next t.alone h)

pub returns-in_ok-after_table-in-Malformed : goal.returns-in_ok-after_table-in-Malformed
returns-in_ok-after_table-in-Malformed c =
    let B : Block = block_of c.args.view.now in
    let l = c.args.level.now in
    let new = c.after_table.new.level in
    let closed = c.in_ok-close.ensures.closed in
    let end : ℕ = c.in-Malformed.end in
    let fault = c.in-Malformed.note in
    let here : IsTableAt B l.at (Malformed end fault) = subst (IsTableAt B l.at) c.in-Malformed.is c.requires.table in
    let t : IsNextTable l B (Malformed end fault) = next_table l B (Malformed end fault) here in
    let stop : end ≡ l.at + t.lines = t.end in
    let at : c.go_to.new.self.at ≡ end = c.go_to.ensures.there (omega (arith, c.close.ensures.at, stop, next_some t.next c.requires.inside)) in
    let more = rw (c.in_ok-error-in-Malformed.ensures, c.number_at-line.ensures, c.as_str-in-Malformed.ensures.value, c.in_ok-text-in-Malformed.ensures, c.as_str.ensures.value, c.in_ok-lines-in-Malformed.ensures.bytes, c.push.ensures.at ∙ at) at (
    moved_more c.go_to.ensures.moved at (more_more c.in_ok-push-in-Malformed.ensures.more c.in_ok-after_table-in-Malformed.ensures.more)) in
    record {
      step = search rules;
      kept = more.depth ∙ closed.depth;
      read = ap (reads new B) c.in_ok-after_table-in-Malformed.ensures.numbers ∙ malformed_reads t (has_ended B _ closed) more;
      paid = λ before few some. malformed_paid before _ _ _ _ here c.requires.inside (more.depth ∙ closed.depth) more.at few some
          c.close.ensures.run c.close.ensures.low c.source.ensures.most (omega (arith, c.in_ok-lines-in-Malformed.ensures.each)) c.after_table.ensures.looked.1 (omega (arith, c.after_table.ensures.looked.0));
    }

pub returns-in_default : goal.returns-in_default
returns-in_default c =
    let B : Block = block_of c.args.view.now in
    let t = next_table c.args.level.now B c.args.found c.requires.table in
    let closed = c.in_ok-close.ensures.closed in
    record {
      step = table_steps c.args.level.now B c.args.found c.close.new.self.at t c.in_default.not-Malformed c.close.ensures.at c.requires.inside;
      kept = closed.depth;
      read = table_comes t (has_ended _ _ closed);
      paid = λ before few some. cells_paid c.args.found before _ _ c.requires.table c.requires.inside closed.depth few some c.close.ensures.run c.close.ensures.low;
    }
