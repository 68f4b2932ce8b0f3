use Rattle.std.proofs.Common.{ℕ, ◌+◌, ◌-◌, ◌<◌, ◌≤◌, Some, None, arith, rules, ◌∙◌, ap}
use Rattle.rst_text.specs.Block.{Block}
use Rattle.rst_text.specs.ViewBlock.{block_of}
use Rattle.rst_markup_blocks.specs.declared.part.Part.{Part}
use Rattle.rst_block_state.specs.machine.MeaningLaws.{first_lines_of}
use Rattle.rst_block_state.specs.machine.Meanings.{comes}
use Rattle.rst_block_state.specs.machine.Steps.{IsRest}
use Rattle.rst_block_state.specs.declared.waits.Waits.TheVariants.{Quote}
use Rattle.rst_block_state.specs.declared.step.Step.TheVariants.{Open}
use Rattle.rst_block_state.proofs.Blocks.{first_lines_block}
use Rattle.rst_block_body.proofs.QuoteSteps.{plain_part, attributed_part, rest_follows}
use Rattle.rst_block_body.proofs.QuotesPaid.{plain_paid, attributed_paid}
use Rattle.rst_block_body.proofs.quote.quote_part.Goals as goal

pub returns-in-None : goal.returns-in-None
returns-in-None c =
    let B : Block = block_of c.args.view.now in
    let l = c.args.level.now in
    let new = c.open.new.self in
    let lines = c.inside-lines.ensures in
    let there = c.open.ensures.at in
    record {
      step = search rules;
      resumed = search rules;
      read = ap (λ s. comes new B s c.args.pass.now.numbers) c.open.ensures.step ∙ plain_part l new B c.args.quote c.number_at-line.result c.args.pass.now.numbers (block_of c.inside-lines.result) lines.block c.in-None.ensures.first lines.lines c.requires.filled
          c.open.ensures.moved there c.number_at-line.ensures;
      paid = rw c.open.ensures.step (plain_paid l new B c.args.quote c.number_at-line.result c.args.pass.now.looks c.first_attribution.new.looks (block_of c.inside-lines.result) lines.block c.in-None.ensures.first lines.lines c.requires.filled c.open.ensures.moved there
          c.in-None.ensures.all);
    }

pub open-requires-in-Some : goal.open-requires-in-Some
open-requires-in-Some c = omega (arith, c.requires.at, c.lines_end-next.ensures.end, c.in-Some.ensures.place.0, c.in-Some.ensures.place.1)

pub returns-in_ok-attribution-in-Some : goal.returns-in_ok-attribution-in-Some
returns-in_ok-attribution-in-Some c =
    let B : Block = block_of c.args.view.now in
    let L : Block = block_of c.inside-lines.result in
    let old = c.args.level.now in
    let new = c.open-in-Some.new.self in
    let quote : Part = c.args.quote in
    let place : ℕ = c.in-Some.place in
    let found = c.in-Some.ensures in
    let next : ℕ = c.lines_end-next.result in
    let line : ℕ = c.number_at-line.result in
    let box = c.in_ok-attribution-in-Some.attribution in
    let ends : c.in-Some.found.end ≤ quote.to - quote.from = omega (arith, found.within.within, c.inside-lines.ensures.lines) in
    let before : quote.from + place ≤ quote.to = omega (arith, ends, found.place.1, c.requires.block.ordered) in
    let opened = c.open-in-Some.ensures in
    let is_later : old.at < new.at = omega (arith, opened.at, c.requires.at, c.lines_end-next.ensures.end, found.place.0, found.place.1) in
    let first_line_block = first_lines_block B quote place c.requires.block before in
    let rest : IsRest B new.at c.rest_of.result = rw c.rest_of.ensures (rest_follows B quote next new.at c.requires.block (omega (arith, opened.at))) in
    record {
      step = rw opened.step (is_later, first_line_block, tt, rest);
      resumed = rw opened.step (c.requires.inside, is_later, first_line_block, tt, rest);
      read = ap (λ s. comes new B s c.attribution_text.new.pass.numbers) opened.step
          ∙ ap (λ left. comes new B (Open (Quote line (Some box) left quote.to) (first_lines_of quote place) None) c.attribution_text.new.pass.numbers) c.rest_of.ensures
          ∙ attributed_part old new B quote place next line c.args.pass.now.numbers c.attribution_text.new.pass.numbers c.in-Some.found c.in_ok-made-in-Some.made box L c.inside-lines.ensures.block
          found.first c.lines_end-next.ensures.end c.in_ok-made-in-Some.ensures.text c.in_ok-attribution-in-Some.ensures.ok c.requires.filled
          c.requires.block.within opened.moved opened.at c.number_at-line.ensures;
      paid = rw opened.step (attributed_paid old new B quote place next line c.args.pass.now.looks c.first_attribution.new.looks _ _ c.in-Some.found box c.rest_of.result L c.rest_of.ensures c.inside-lines.ensures.block
          found.first c.lines_end-next.ensures.end c.inside-lines.ensures.lines c.requires.filled c.requires.block.within found.place.0
          opened.moved opened.at found.through c.attribution_text.ensures.most c.in_ok-made-in-Some.ensures.each
          c.lines_end-next.ensures.looked);
    }
