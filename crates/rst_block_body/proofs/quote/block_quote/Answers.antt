use Rattle.std.proofs.Common.{◌<◌, [], sym, ap, subst, ◌∙◌, arith, rules}
use Rattle.std.proofs.lemmas.Result.{IfOk-weaker}
use Rattle.rst_text.specs.ViewBlock.{block_of}
use Rattle.rst_markup_blocks.specs.declared.begun.Begun.TheVariants.{Quote}
use Rattle.rst_markup_blocks.specs.declared.part.Part.{Part}
use Rattle.rst_block_state.specs.machine.Meanings.{quotes_from}
use Rattle.rst_block_state.proofs.Calls.{keeps_as}
use Rattle.rst_block_state.proofs.NextConstructs.{next_of, next_some, has_ended}
use Rattle.rst_block_body.proofs.QuoteSteps.{quote_reads}
use Rattle.rst_block_body.proofs.QuotesPaid.{block_quote_paid}
use Rattle.rst_block_body.proofs.ReadLemmas.{alone_refused}
use Rattle.rst_block_body.proofs.quote.block_quote.Goals as goal

pub returns-in_err-close : goal.returns-in_err-close
returns-in_err-close c = alone_refused c.in_err-close.field-0.0 (next_of Quote c.args.level.now (block_of c.args.view.now) c.requires.begun tt) tt (search rules) c.in_err-close.ensures.closed

pub quote_part-requires-clause-filled : goal.quote_part-requires-clause-filled
quote_part-requires-clause-filled c =
    subst (λ (p : Part). p.from < p.to) (sym c.indented-quote.ensures.part) (next_some (next_of Quote c.args.level.now (block_of c.args.view.now) c.requires.begun tt) c.requires.inside)

pub returns : goal.returns
returns c =
    let B = block_of c.args.view.now in
    let part = c.indented-quote.ensures.part in
    let read = quote_reads (omega arith) c.requires.begun (has_ended B _ c.in_ok-close.ensures.closed) in
    record {
      step = search rules;
      read = keeps_as c.quote_part.result _ _ _ (ap (λ p. quotes_from c.close.new.self B [] p c.close.new.pass.numbers) part ∙ sym read) c.quote_part.ensures.read;
      paid = IfOk-weaker c.quote_part.result _ _
          (λ s h. block_quote_paid c.args.level.now c.close.new.self c.quote_part.new.level B c.indented-quote.result s _ _ _ _ _ _ c.requires.inside c.requires.begun
          c.in_ok-close.ensures.closed c.close.ensures.low c.close.ensures.run part c.indented-quote.ensures.reach c.indented-quote.ensures.low h)
          c.quote_part.ensures.paid;
    }
