use Rattle.std.proofs.Common.{◌≡◌, ◌+◌, length, drop, slice_range, refl, sym, ap, ◌∙◌, arith, rules}
use Rattle.std.specs.Option.{option_to_list}
use Rattle.std.proofs.lemmas.Bool.{eqb-true}
use Rattle.rst_text.specs.Block.{first_number}
use Rattle.rst_text.specs.Looked.{Looked}
use Rattle.rst_text.specs.ViewBlock.{block_of}
use Rattle.rst_block_state.specs.machine.OpenBlocks.{HasMore}
use Rattle.rst_block_state.proofs.Calls.{gives_map, gives_kept}
use Rattle.rst_block_state.proofs.Changes.{more_more, more_moved}
use Rattle.rst_block_state.proofs.NextConstructs.{lines_after}
use Rattle.rst_block_body.proofs.TextsPaid.{lines_looked, more_items, title_items}
use Rattle.rst_block_body.proofs.text.underlined.Goals as goal

pub push_heading-requires : goal.push_heading-requires
push_heading-requires c = c.go_to.ensures.moved.depth ∙ eqb-true c.args.level.now.depth 0 (sym c.titles.ensures ∙ c.if-titles.true)

pub returns-then-titles : goal.returns-then-titles
returns-then-titles c =
    let B = block_of c.args.view.now in
    let l = c.args.level.now in
    let under : c.number_at-under.result ≡ first_number (drop 1 (drop l.at B)) = c.number_at-under.ensures ∙ ap first_number (sym (lines_after B l.at 1 (l.at + 1) refl)) in
    let few : Looked 0 2 c.source.new.looks c.heading_of.new.pass.looks = search rules in
    let looked : length (slice_range B l.at (l.at + 2)) ≡ 2 = lines_looked B l.at 2 (omega (arith, c.requires.inside)) in
    record {
      read = gives_map _ _ c.push_heading.result c.push_heading.ensures.title (λ _ h. title_items _
          (rw (sym c.titles.ensures ∙ c.if-titles.true) (rw (c.unwrap_or.ensures, c.first_char.ensures, c.below_text.ensures.text, c.line-text.ensures.text, c.parts-parts.ensures.value, c.number_at-line.ensures, c.in_ok-warning.ensures, under, c.as_str.ensures.value, c.in_ok-lines.ensures.bytes) at c.in_ok-heading.ensures.title))
          c.go_to.ensures.moved (c.go_to.ensures.there (omega arith)) h);
      looked = gives_kept _ _ c.push_heading.result c.push_heading.ensures.title (λ _ _. (omega (arith, c.in_ok-lines.ensures.each, looked, few.0), omega (arith, c.source.ensures.most, few.1)));
    }

pub returns : goal.returns
returns c =
    let B = block_of c.args.view.now in
    let l = c.args.level.now in
    let under : c.number_at-under.result ≡ first_number (drop 1 (drop l.at B)) = c.number_at-under.ensures ∙ ap first_number (sym (lines_after B l.at 1 (l.at + 1) refl)) in
    let looked : length (slice_range B l.at (l.at + 2)) ≡ 2 = lines_looked B l.at 2 (omega (arith, c.requires.inside)) in
    let warned : HasMore l c.match-warning.level (option_to_list c.in_ok-warning.warning) = search rules in
    let there : c.go_to-2.new.self.at ≡ l.at + 2 = c.go_to-2.ensures.there (omega (arith, warned.at)) in
    record {
      read = gives_map _ _ c.push-2.result c.push-2.ensures.more
          (λ _ h. more_items _ (rw (sym c.titles.ensures ∙ c.if-titles.false, c.in_ok-severe.ensures, c.in_ok-warning.ensures, under, c.as_str.ensures.value, c.as_str-2.ensures.value, c.in_ok-lines.ensures.bytes) refl)
          (more_more (more_moved warned c.go_to-2.ensures.moved there) h));
      looked = gives_kept _ _ c.push-2.result c.push-2.ensures.more (λ _ _. (omega (arith, c.in_ok-lines.ensures.each, looked), omega (arith, c.source.ensures.most)));
    }
