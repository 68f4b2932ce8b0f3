use Rattle.std.proofs.Common.{◌≡◌, ◌∙◌, ap, ap₂, ℕ, List}
use Rattle.std.specs.List.{list_any}
use Rattle.std.specs.Str.{all_scalars, chars}
use Rattle.std.proofs.lemmas.Str.{scalars-chars}
use Rattle.rst_settings.specs.declared.Parts.{Parts}
use Rattle.rst_text.specs.Lines.{is_line_end, is_line_text}
use Rattle.rst_text.specs.ViewBlock.{block_of}
use Rattle.rst_text.proofs.Cuts.{is_line_text-line}
use Rattle.rst_text.proofs.LineTexts.{is_line_text-parts}
use Rattle.rst_markup_tables.specs.Cells.{characters}
use Rattle.rst_markup_tables.specs.Places.{Row, places_of}
use Rattle.rst_markup_tables.specs.declared.places.Place.{Place}
use Rattle.rst_markup_tables.proofs.CellLemmas.{characters-places}
use Rattle.rst_markup_tables.proofs.GridLemmas.{row_here}
use Rattle.rst_markup_tables.proofs.places.line_of.Goals as goal

pub invariant_of-result : goal.invariant_of-result
invariant_of-result c =
    let text : characters c.in_ok-places.places.items ≡ chars c.args.text.now = ap characters c.in_ok-places.ensures ∙ characters-places (chars c.args.text.now) in
    record {
      scalars = ap all_scalars text ∙ scalars-chars c.args.text.now c.utf8.text;
      unended = ap (list_any is_line_end) text ∙ (is_line_text-parts (chars c.args.text.now) (ap is_line_text c.requires.text ∙ is_line_text-line c.args.view.now c.args.k)).0;
    }

pub returns-clause-line : goal.returns-clause-line
returns-clause-line c =
    let row : ℕ → Parts → List Place → Row = λ n parts ps. record { number = n; places = ps; parts = parts } in
    row_here (block_of c.args.view.now) c.args.k (row c.number-number.result c.parts-parts.result.now c.in_ok-places.places.items) c.requires.inside
    (ap₂ (λ n parts. row n parts c.in_ok-places.places.items) c.number-number.ensures.value c.parts-parts.ensures.value ∙ ap (row _ _) (c.in_ok-places.ensures ∙ ap places_of c.requires.text))

pub returns-clause-number : goal.returns-clause-number
returns-clause-number c = c.number-number.ensures.from_first

pub returns-clause-parts : goal.returns-clause-parts
returns-clause-parts c = c.parts-parts.ensures.as_first c.requires.inside
