use Rattle.std.proofs.Common.{◌≡◌, ℕ, ◌∙◌, ◌-◌, length, get_or, ap, rules}
use Rattle.rst_text.specs.Extent.{least_indent}
use Rattle.rst_text.specs.Source.{texts_with}
use Rattle.rst_markup_tables.specs.Cells.{as_lines, texts_among}
use Rattle.rst_markup_tables.specs.Places.{Grid, no_row}
use Rattle.rst_markup_tables.proofs.Texts.{cell_block-is, cell-placed, drop_each}
use Rattle.rst_markup_tables.proofs.cells.cell_lines.Goals as goal

pub invariant_of-result : goal.invariant_of-result
invariant_of-result c =
    let texts = c.in_ok-texts.ensures.texts ∙ ap (texts_among c.args.left c.args.right c.args.lines.now) c.requires.among in
    (cell-placed c.args.left c.args.right c.args.lines.now c.least_indent-least.result _ _ texts c.in_ok-texts.ensures.lines (c.kept.ensures ∙ c.in_ok-texts-2.ensures), search rules, search rules)

pub returns : goal.returns
returns c =
    let G : Grid = c.args.lines.now in
    let least : ℕ = c.least_indent-least.result in
    let texts = c.in_ok-texts.ensures.texts ∙ ap (texts_among c.args.left c.args.right G) c.requires.among in
    let indent = c.least_indent-least.ensures ∙ ap (λ ts. least_indent (as_lines (texts_with ts))) c.deref.ensures.value in
    let first : c.match-last.first ≡ (get_or G 0 no_row).number = search rules in
    let same : c.match-first.parts ≡ (get_or G 0 no_row).parts = search rules in
    cell_block-is c.args.left c.args.right G c.match-first.parts _ least _ _ c.requires.numbered same first texts indent (c.kept.ensures ∙ c.in_ok-texts-2.ensures)
