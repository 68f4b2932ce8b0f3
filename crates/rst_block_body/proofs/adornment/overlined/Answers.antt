use Rattle.std.proofs.Common.{◌≡◌, ◌+◌, length, drop, slice_range, arith, rules, refl, sym, ◌∙◌, ap}
use Rattle.std.specs.Str.{chars}
use Rattle.rst_text.specs.Block.{first_number}
use Rattle.rst_text.specs.ViewBlock.{block_of}
use Rattle.rst_markup_lines.specs.TextStart.{unindented}
use Rattle.rst_markup_blocks.specs.Conditions.{next_text}
use Rattle.rst_block_state.proofs.NextConstructs.{next_within, lines_after}
use Rattle.rst_block_state.proofs.Views.{few_lines}
use Rattle.rst_block_body.proofs.ReadLemmas.{alone_refused}
use Rattle.rst_block_body.proofs.TextsPaid.{flat_read, title_items, lines_looked}
use Rattle.rst_block_body.proofs.adornment.overlined.Goals as goal

pub push_heading-requires : goal.push_heading-requires
push_heading-requires c = c.go_to.ensures.moved.depth ∙ c.in_ok-close.ensures.closed.depth ∙ c.requires.titles

pub overflow_add-end : goal.overflow_add-end
overflow_add-end c = omega (arith, next_within c.requires.found c.requires.inside, few_lines c.args.view.now)

pub returns-in_err-close : goal.returns-in_err-close
returns-in_err-close c = alone_refused c.in_err-close.field-0.0 c.requires.found tt (search rules) c.in_err-close.ensures.closed

pub returns : goal.returns
returns c =
    let B = block_of c.args.view.now in
    let l = c.args.level.now in
    let X = drop l.at B in
    let looked : length (slice_range B l.at (l.at + 3)) ≡ 3 = lines_looked B l.at 3 (next_within c.requires.found c.requires.inside) in
    let line : c.number_at-line-2.result ≡ first_number (drop 1 X) = c.number_at-line-2.ensures ∙ ap first_number (sym (lines_after B l.at 1 (l.at + 1) refl)) in
    let text : chars c.skip-text.result.now ≡ unindented (next_text X) =
    c.skip-text.ensures.chars ∙ ap (λ i. drop i (chars c.below_text-text.result.now)) c.indentation.ensures.value ∙ ap unindented c.below_text-text.ensures.text in
    let warning = c.in_ok-warning.ensures in
    let at : c.go_to.new.self.at ≡ l.at + 3 = c.go_to.ensures.there (omega (arith, c.close.ensures.at)) in
    flat_read c.requires.inside c.requires.found tt c.in_ok-close.ensures.closed
    (title_items _ (rw (text, line, warning, c.parts-parts.ensures.value, c.number_at-line.ensures, c.as_str.ensures.value, c.in_ok-lines.ensures.bytes) at c.in_ok-heading.ensures.title) c.go_to.ensures.moved at c.in_ok-push_heading.ensures.title)
    (omega (arith, c.close.ensures.run, c.source.ensures.most, c.below_text-text.ensures.looked.1, c.heading_of.ensures.looks))
    (omega (arith, c.close.ensures.low, c.in_ok-lines.ensures.each, looked, c.below_text-text.ensures.looked.0, c.heading_of.ensures.looks))
