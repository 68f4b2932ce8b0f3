use Rattle.std.proofs.Common.{◌≡◌, ◌∷◌, [], ◌++◌, drop, ◌∙◌, ap, arith}
use Rattle.rst_text.specs.Block.{Block}
use Rattle.rst_text.specs.Extent.{extent}
use Rattle.rst_text.specs.ViewBlock.{block_of}
use Rattle.std.specs.Prelude.{string_bytes}
use Rattle.std.specs.Str.{chars}
use Rattle.rst_markup_blocks.proofs.RowLaws.{extent_le}
use Rattle.rst_block_state.specs.LineRuns.{below_bar}
use Rattle.rst_block_body.specs.TextSteps.{text_over}
use Rattle.rst_block_state.specs.Texts.{lines_in}
use Rattle.rst_block_state.specs.Within.{indented_part}
use Rattle.rst_block_body.proofs.LineSteps.{full_line, bare_line, over_lines, over_none}
use Rattle.rst_block_state.proofs.Looked.{reach_le}
use Rattle.rst_block_state.proofs.NextConstructs.{span_to}
use Rattle.rst_block_body.proofs.line.bar_text.Goals.{then-len-gt0+in_ok-push+in_ok-push_str, else-len-gt0}
use Rattle.rst_block_body.proofs.line.bar_text.Goals as goal

pub returns-then-marker-clause-line : goal.returns-then-marker-clause-line
returns-then-marker-clause-line c =
    let B : Block = block_of c.args.view.now in
    let below : block_of c.inside-below.result ≡ below_bar B (span_to c.args.at c.args.end) =
    c.inside-below.ensures.block ∙ ap (lines_in (block_of c.lines_between-below.result)) c.indented.ensures.part ∙ ap (λ Y. lines_in Y (indented_part 0 Y)) c.lines_between-below.ensures.lines in
    λ last. bare_line B c.args.marker (span_to c.args.at c.args.end) c.number_at-line.result c.first_line_or-text_line.result last (chars (string_bytes c.in_ok-further.further)) (block_of c.inside-below.result)
    c.parts-parts.result.now c.parts-parts.ensures.value c.if-marker.true c.number_at-line.ensures below c.first_line_or-text_line.ensures c.in_ok-further.ensures.text

pub returns-clause-line : goal.returns-clause-line
returns-clause-line c =
    let B : Block = block_of c.args.view.now in
    let Y : Block = block_of c.inside-below.result in
    let first = c.skip-first.result.now in
    let text : chars (string_bytes c.if-len-gt0.text) ≡ text_over (chars first) Y =
    elim c.if-len-gt0.branch [
      | then-len-gt0+in_ok-push+in_ok-push_str w ↦ over_lines c.if-len-gt0.text first (string_bytes c.in_ok-further.further) Y c.skip-first.utf8 (omega (arith, w.if-len-gt0.true, c.len.ensures))
          (ap string_bytes w.text-is
          ∙ w.in_ok-push_str.ensures.bytes
          ∙ ap (λ x. x ++ w.as_str.result.now) (w.in_ok-push.ensures.bytes ∙ ap (λ x. string_bytes c.in_ok-text.text ++ x) (w.in_ok-push.ensures.ascii (omega arith)) ∙ ap (λ x. x ++ 10 ∷ []) c.in_ok-text.ensures.ok)
          ∙ ap (λ x. (first ++ 10 ∷ []) ++ x) w.as_str.ensures.value)
          c.in_ok-further.ensures.text
      | else-len-gt0 w ↦ over_none c.if-len-gt0.text first Y (omega (arith, w.if-len-gt0.false, c.len.ensures)) (ap string_bytes w.text-is ∙ c.in_ok-text.ensures.ok)
    ] in
    let below : Y ≡ below_bar B (span_to c.args.at c.args.end) =
    c.inside-below.ensures.block ∙ ap (lines_in (block_of c.lines_between-below.result)) c.indented.ensures.part ∙ ap (λ Y. lines_in Y (indented_part 0 Y)) c.lines_between-below.ensures.lines in
    λ last. full_line B c.args.marker (span_to c.args.at c.args.end) c.saturating_sub.result c.number_at-line.result last (chars (string_bytes c.if-len-gt0.text)) Y c.parts-parts.result.now c.parts-parts.ensures.value c.if-marker.false c.requires.inside
    c.saturating_sub.ensures c.number_at-line.ensures below
    (text ∙ ap (λ t. text_over t Y) (c.skip-first.ensures.chars ∙ ap (drop c.args.marker.cut) c.line.ensures.text))

pub returns-then-marker-clause-looked : goal.returns-then-marker-clause-looked
returns-then-marker-clause-looked c =
    let Y : Block = block_of c.lines_between-below.result in (
      omega (arith, c.indented.ensures.low, c.in_ok-further.ensures.each),
      omega (arith, reach_le (extent 1 Y) Y (extent_le 1 Y), c.lines_between-below.ensures.few, c.indented.ensures.reach, c.inside-below.ensures.fewer, c.joined.ensures.most),
    )

pub returns-clause-looked : goal.returns-clause-looked
returns-clause-looked c =
    let Y : Block = block_of c.lines_between-below.result in (
      omega (arith, c.indented.ensures.low, c.in_ok-further.ensures.each, c.line.ensures.looks),
      omega (arith, reach_le (extent 1 Y) Y (extent_le 1 Y), c.lines_between-below.ensures.few, c.indented.ensures.reach, c.inside-below.ensures.fewer, c.joined.ensures.most, c.line.ensures.looks),
    )
