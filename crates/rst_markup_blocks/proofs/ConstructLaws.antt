-- What the construct of each row has of its block.
use Rattle.std.proofs.Common.{◌≡◌, ◌≤◌, Bool, true, length, ap, ap₂, refl, ◌∙◌}
use Rattle.std.specs.Prelude.{is_some, take}
use Rattle.rst_text.specs.Block.{Block, first_text, is_blank}
use Rattle.rst_markup_lines.specs.Adornment.{adornment_of}
use Rattle.rst_markup_lines.specs.ExplicitMarks.{dots, underscores}
use Rattle.rst_markup_lines.specs.Field.{field_of}
use Rattle.rst_markup_lines.specs.TextStart.{begins_with}
use Rattle.rst_markup_lines.specs.Marker.{bullet, doctest, line_bar}
use Rattle.rst_markup_blocks.specs.Conditions.{next_text, after_text, item_enumerator, item_option}
use Rattle.rst_markup_blocks.specs.Ends.{row_reach, row_size}
use Rattle.rst_markup_blocks.specs.Kinds.{row_holds}
use Rattle.rst_markup_blocks.specs.Rows.{is_field_row, is_option_row, is_bar_row, is_anonymous_row}
use Rattle.rst_markup_lines.specs.Border.{is_grid_border, is_simple_border}
use Rattle.rst_markup_blocks.specs.declared.kind.Kind.{Kind}
use Rattle.rst_markup_blocks.specs.declared.kind.Kind.TheVariants.{Blank, Quote, Bullet, Enumerator, Field, OptionItem, Doctest, Line as BarLine, Grid, Simple, Explicit, Anonymous, Adornment, Text}
use Rattle.rst_markup_blocks.proofs.AdornmentLaws.{adornment_within}
use Rattle.rst_markup_blocks.proofs.ExplicitLaws.{explicit_within}
use Rattle.rst_markup_blocks.proofs.ReachLaws.{grid_reaches, reach_within, simple_reaches}
use Rattle.rst_markup_blocks.proofs.RowLaws.{blank_within, quote_within, bullet_within, enumerator_within, hanging_within, indented_within, doctest_within, text_within, same_after, same_first, same_next, same_parts}
use Rattle.rst_markup_blocks.proofs.TableLaws.{grid_within, simple_within}

pub row_within : (k : Kind) (titles : Bool) (X : Block) → 1 ≤ length X → row_holds k X ≡ true → (1 ≤ row_size k titles X) × (row_size k titles X ≤ length X)
row_within Blank = blank_within
row_within Quote = quote_within
row_within Bullet = bullet_within
row_within Enumerator = enumerator_within
row_within Field = hanging_within is_field_row
row_within OptionItem = hanging_within is_option_row
row_within Doctest = doctest_within
row_within BarLine = indented_within is_bar_row
row_within Grid = grid_within
row_within Simple = simple_within
row_within Explicit = explicit_within
row_within Anonymous = indented_within is_anonymous_row
row_within Adornment = adornment_within
row_within Text = text_within

pub row_reaches : (k : Kind) (titles : Bool) (X : Block) → 1 ≤ length X → row_holds k X ≡ true → (row_size k titles X ≤ row_reach k titles X) × (row_reach k titles X ≤ length X)
row_reaches Grid = grid_reaches
row_reaches Simple = simple_reaches
row_reaches k = λ titles X some h. reach_within (row_size k titles X) X (row_within k titles X some h).1

pub row_on_three : (k : Kind) (X Y : Block) → take 3 X ≡ take 3 Y → row_holds k X ≡ row_holds k Y
row_on_three Blank X Y h = ap is_blank (same_first X Y h)
row_on_three Quote X Y h = ap (begins_with 32) (same_first X Y h)
row_on_three Bullet X Y h = ap (λ t. is_some (bullet t)) (same_first X Y h)
row_on_three Enumerator X Y h = ap₂ (λ t n. is_some (item_enumerator t n)) (same_first X Y h) (same_next X Y h)
row_on_three Field X Y h = ap₂ (λ parts t. is_some (field_of parts t)) (same_parts X Y h) (same_first X Y h)
row_on_three OptionItem X Y h =
    ap₂ (λ t n. is_some (item_option t n (after_text X))) (same_first X Y h) (same_next X Y h)
    ∙ ap (λ a. is_some (item_option (first_text Y) (next_text Y) a)) (same_after X Y h)
row_on_three Doctest X Y h = ap (λ t. is_some (doctest t)) (same_first X Y h)
row_on_three BarLine X Y h = ap (λ t. is_some (line_bar t)) (same_first X Y h)
row_on_three Grid X Y h = ap is_grid_border (same_first X Y h)
row_on_three Simple X Y h = ap is_simple_border (same_first X Y h)
row_on_three Explicit X Y h = ap (λ t. is_some (dots t)) (same_first X Y h)
row_on_three Anonymous X Y h = ap (λ t. is_some (underscores t)) (same_first X Y h)
row_on_three Adornment X Y h = ap (λ t. is_some (adornment_of t)) (same_first X Y h)
row_on_three Text X Y h = refl
