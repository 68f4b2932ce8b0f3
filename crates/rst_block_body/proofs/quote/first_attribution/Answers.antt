use Rattle.std.proofs.Common.{◌≡◌, ◌+◌, drop, length-drop, arith, rules, ap}
use Rattle.std.proofs.lemmas.List.{drop-drop}
use Rattle.rst_text.specs.Block.{Block}
use Rattle.rst_text.specs.ViewBlock.{block_of}
use Rattle.rst_markup_blocks.specs.Lines.{lines_while}
use Rattle.rst_markup_blocks.specs.declared.lines.LineTest.TheVariants.{Filled}
use Rattle.rst_block_body.proofs.AttributionsFound.{Unfound-start, Unfound-step, Unfound-found, Unfound-blank, Unfound-end, after_blank, attribution_end}
use Rattle.rst_block_body.proofs.quote.first_attribution.Goals as goal

pub loop-end-init : goal.loop-end-init
loop-end-init c = record {
  within = c.lines_end-end.ensures.within;
  looks = omega (arith, c.lines_end-end.ensures.looked.1, c.lines_end-end.ensures.end);
  low = omega (arith, c.lines_end-end.ensures.looked.0, c.lines_end-end.ensures.end);
  unfound = Unfound-start (block_of c.args.lines.now) c.lines_end-end.result c.lines_end-end.ensures.end;
}

pub returns-in-Some : goal.returns-in-Some
returns-in-Some c =
    let B : Block = block_of c.args.lines.now in
    let at = c.lines_end-place.result in
    let place = after_blank B c.loop-end.end at c.loop-end.invariant.unfound (omega arith) c.lines_end-place.ensures.end in
    let ends = attribution_end at (drop at B) c.in-Some.found c.in-Some.ensures.attribution in
    record {
      first = Unfound-found B c.loop-end.end at c.in-Some.found c.loop-end.invariant.unfound place (omega arith) c.in-Some.ensures.attribution;
      place = (omega (arith, place), omega (arith, ends));
      within = search rules;
      through = (
        omega (arith, c.lines_end-place.ensures.end, c.lines_end-place.ensures.looked.0, c.in-Some.ensures.each, c.loop-end.invariant.low, ends),
        omega (arith, place, c.lines_end-place.ensures.end, c.lines_end-place.ensures.looked.1, c.attribution_at.ensures.looked.1, c.loop-end.invariant.looks, ends),
      );
      all = tt;
    }

pub returns-then-place-len-clause-first : goal.returns-then-place-len-clause-first
returns-then-place-len-clause-first c =
    let B : Block = block_of c.args.lines.now in
    let place = after_blank B c.loop-end.end c.lines_end-place.result c.loop-end.invariant.unfound (omega arith) c.lines_end-place.ensures.end in
    Unfound-blank B c.loop-end.end c.lines_end-place.result c.loop-end.invariant.unfound place (omega arith)

pub returns-clause-first : goal.returns-clause-first
returns-clause-first c = Unfound-end (block_of c.args.lines.now) c.loop-end.end c.loop-end.invariant.unfound (omega arith)

pub loop-end-preserved : goal.loop-end-preserved
loop-end-preserved c =
    let B : Block = block_of c.args.lines.now in
    let below : lines_while Filled (drop 1 (drop c.lines_end-place.result B)) ≡ lines_while Filled (drop (c.lines_end-place.result + 1) B) = ap (lines_while Filled) (drop-drop 1 c.lines_end-place.result B) in
    let place = after_blank B c.loop-end.end c.lines_end-place.result c.loop-end.invariant.unfound (omega arith) c.lines_end-place.ensures.end in
    record {
      within = c.lines_end-end-in-None.ensures.within;
      looks = omega (arith, below, place, c.lines_end-place.ensures.end, c.lines_end-place.ensures.looked.1, c.attribution_at.ensures.looked.1, c.lines_end-end-in-None.ensures.end, c.lines_end-end-in-None.ensures.looked.1, c.loop-end.invariant.looks);
      low = omega (arith, c.lines_end-place.ensures.end, c.lines_end-place.ensures.looked.0, c.attribution_at.ensures.looked.0, c.lines_end-end-in-None.ensures.end, c.lines_end-end-in-None.ensures.looked.0, c.loop-end.invariant.low);
      unfound = Unfound-step B c.loop-end.end c.lines_end-place.result c.lines_end-end-in-None.result c.loop-end.invariant.unfound place (omega arith) (length-drop (c.loop-end.end + 1) B)
          c.in-None.ensures.attribution c.lines_end-end-in-None.ensures.end;
    }
