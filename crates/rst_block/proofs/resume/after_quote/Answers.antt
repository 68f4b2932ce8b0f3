use Rattle.std.proofs.Common.{[], sym, ap}
use Rattle.std.proofs.lemmas.Result.{IfOk-weaker}
use Rattle.rst_text.specs.ViewBlock.{block_of}
use Rattle.rst_block_state.specs.looks.Ledger.{AreQuotesPaid}
use Rattle.rst_block_state.specs.machine.Meanings.{after_quote}
use Rattle.rst_block_state.proofs.Calls.{keeps_as}
use Rattle.rst_block_body.proofs.QuoteSteps.{quote_ends}
use Rattle.rst_block_body.proofs.QuotesPaid.{further_paid, last_paid}
use Rattle.rst_block.proofs.resume.after_quote.Goals as goal

pub returns-in-Some-clause-goes : goal.returns-in-Some-clause-goes
returns-in-Some-clause-goes c line made = record {
  kept = IfOk-weaker c.quote_part.result (λ s. AreQuotesPaid c.args.level.now c.quote_part.new.level (block_of c.args.view.now) c.in-Some.rest c.in-Some.rest.to s _ _) _ (λ _ h. h.depth) c.quote_part.ensures.paid;
  read = keeps_as c.quote_part.result _ _ _ (ap (λ rest. after_quote c.args.level.now (block_of c.args.view.now) [] rest c.args.end c.args.pass.now.numbers) (sym c.in-Some.is)) c.quote_part.ensures.read;
  paid = IfOk-weaker c.quote_part.result _ _
      (λ s h. further_paid c.args.level.now c.quote_part.new.level (block_of c.args.view.now) c.args.rest line c.args.end made c.in-Some.rest s _ _ c.in-Some.is h)
      c.quote_part.ensures.paid;
}

pub returns-in_ok-warn-in-None-clause-goes : goal.returns-in_ok-warn-in-None-clause-goes
returns-in_ok-warn-in-None-clause-goes c line made =
    let B = block_of c.args.view.now in
    let warned = c.in_ok-warn-in-None.ensures in
    record {
      kept = warned.more.depth;
      read = quote_ends B c.args.end c.args.pass.now.numbers c.in-None.is warned.numbers warned.more;
      paid = last_paid B c.args.rest line c.args.end made _ _ c.in-None.is warned.more c.warn.ensures.looks c.warn.ensures.low;
    }
