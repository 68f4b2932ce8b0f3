use Rattle.std.proofs.Common.{rules, ◌≡◌, ◌∙◌, ◌+◌, Some, None, sym, ap, drop, arith}
use Rattle.std.specs.Prelude.{option_map}
use Rattle.rst_text.specs.Block.{Block, first_text, indentation}
use Rattle.rst_markup_lines.specs.Attribution.{attribution_of}
use Rattle.rst_text.specs.ViewBlock.{block_of}
use Rattle.rst_markup_blocks.specs.Attributions.{level_lines}
use Rattle.rst_markup_blocks.specs.Conditions.{next_text}
use Rattle.rst_markup_blocks.specs.Lines.{lines_while}
use Rattle.rst_markup_blocks.specs.declared.lines.LineTest.TheVariants.{Filled}
use Rattle.rst_markup_blocks.proofs.AttributionLemmas.{lines_none, lines_some, attribution_none, attribution_some, attribution_block}
use Rattle.rst_text.proofs.Ends.{drop_one}
use Rattle.rst_markup_blocks.proofs.attribution.attribution_at.Goals as goal

pub returns-in-Some : goal.returns-in-Some
returns-in-Some c =
    let B : Block = block_of c.args.view.now in
    let indent : c.indentation-indent.result ≡ indentation (next_text (drop c.args.k B)) = c.indentation-indent.ensures.value ∙ ap (λ t. indentation t) c.below_text.ensures.text in
    let some : Some c.in-Some.end ≡ option_map (λ n. c.args.k + 1 + n) (level_lines c.indentation-indent.result (drop (c.args.k + 1) B)) = sym c.in-Some.is ∙ c.level_end.ensures.end in
    let mark : attribution_of (first_text (drop c.args.k B)) ≡ Some c.in_ok-marker.marker = ap attribution_of (sym c.line.ensures.text) ∙ sym c.attribution_of.ensures ∙ c.in_ok-marker.was in
    let lines = lines_some c.args.k c.indentation-indent.result c.in-Some.end B some in
    record {
      attribution = attribution_some c.args.k c.indentation-indent.result c.in_ok-marker.marker lines.0 c.in-Some.end (drop c.args.k B) indent lines.1 lines.2 mark;
      text = rw lines.2 (attribution_block c.args.k lines.0 c.in_ok-marker.marker c.indentation-indent.result B (omega arith) lines.1);
      looked = search (arith, ap (λ Y. lines_while Filled Y) (drop_one c.args.k B));
      each = search rules;
    }

pub returns-in-None-clause-attribution : goal.returns-in-None-clause-attribution
returns-in-None-clause-attribution c =
    let B : Block = block_of c.args.view.now in
    let indent : c.indentation-indent.result ≡ indentation (next_text (drop c.args.k B)) = c.indentation-indent.ensures.value ∙ ap (λ t. indentation t) c.below_text.ensures.text in
    let none : None ≡ option_map (λ n. c.args.k + 1 + n) (level_lines c.indentation-indent.result (drop (c.args.k + 1) B)) = sym c.in-None.is ∙ c.level_end.ensures.end in
    let mark : attribution_of (first_text (drop c.args.k B)) ≡ Some c.in_ok-marker.marker = ap attribution_of (sym c.line.ensures.text) ∙ sym c.attribution_of.ensures ∙ c.in_ok-marker.was in
    attribution_none c.args.k c.indentation-indent.result c.in_ok-marker.marker (drop c.args.k B) indent (lines_none c.args.k c.indentation-indent.result B none) mark

pub returns-in-None-clause-looked : goal.returns-in-None-clause-looked
returns-in-None-clause-looked c = search (arith, ap (λ Y. lines_while Filled Y) (drop_one c.args.k (block_of c.args.view.now)))
