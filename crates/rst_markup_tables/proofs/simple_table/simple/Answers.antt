use Rattle.std.proofs.Common.{◌≡◌, ◌∙◌, ◌+◌, ◌-◌, ap, ap₂, sym, drop, take, length-drop, arith, ℕ, Bool, Option, Some}
use Rattle.std.specs.Option.{option_or}
use Rattle.rst_settings.specs.declared.Parts.{Parts}
use Rattle.rst_text.specs.Block.{Block, first_number, first_parts}
use Rattle.rst_text.specs.ViewBlock.{block_of}
use Rattle.rst_markup_blocks.specs.TableRows.{head_border, simple_size}
use Rattle.rst_markup_blocks.proofs.TableLaws.{simple_size_le}
use Rattle.rst_markup_tables.specs.Places.{Grid, rows_of}
use Rattle.rst_markup_tables.specs.Ends.{end_of}
use Rattle.rst_markup_tables.specs.GridTable.{malformed}
use Rattle.rst_markup_tables.specs.SimpleTable.{border_fault, lines_fault, simple_fault, simple_by}
use Rattle.rst_markup_tables.proofs.EndLemmas.{rows-size, table-size, looks-borders, looks-lines, simple_end}
use Rattle.rst_markup_tables.proofs.GridLemmas.{rows-taken}
use Rattle.rst_markup_tables.proofs.simple_table.simple.Goals as goal

pub returns-in-Some-clause-table : goal.returns-in-Some-clause-table
returns-in-Some-clause-table c =
    let X : Block = drop c.args.i (block_of c.args.view.now) in
    let T : Grid = rows_of (take (simple_size X) X) in
    let borders = c.simple_borders-borders.ensures in
    let size = table-size X _ _ _ _ c.size-size.ensures (omega (arith, length-drop c.args.i (block_of c.args.view.now))) borders.head borders.bottom in
    let fault : simple_fault X T ≡ Some c.in-Some.detail = ap (λ o. option_or o (lines_fault (first_parts X).unmarked T)) (ap (border_fault X) (sym borders.bottom) ∙ sym c.in-Some.ensures.fault) in
    c.malformed.ensures ∙ ap₂ (λ (n m : ℕ). malformed n c.args.i m c.in-Some.detail) c.number-line.ensures.value (size ∙ sym (rows-size (simple_size X) X (simple_size_le X)))
    ∙ sym (ap (simple_by (first_parts X).unmarked (first_number X) c.args.i (head_border X) T) fault)

pub returns-in-Some-clause-end : goal.returns-in-Some-clause-end
returns-in-Some-clause-end c = ap end_of (returns-in-Some-clause-table c) ∙ simple_end (block_of c.args.view.now) c.args.i

pub returns-in-Some-clause-looked : goal.returns-in-Some-clause-looked
returns-in-Some-clause-looked c =
    let borders = c.simple_borders-borders.ensures in
    search (arith, looks-borders (drop c.args.i (block_of c.args.view.now)) _ _ _ _ (omega (arith, length-drop c.args.i (block_of c.args.view.now))) borders.bottom borders.looked.1 c.border_fault.ensures.looked.1 c.border_fault.ensures.none)

pub returns-in_err-lines-clause-looked : goal.returns-in_err-lines-clause-looked
returns-in_err-lines-clause-looked c =
    let borders = c.simple_borders-borders.ensures in
    search (arith, looks-lines (drop c.args.i (block_of c.args.view.now)) _ _ _ _ c.size-size.ensures (omega (arith, length-drop c.args.i (block_of c.args.view.now))) borders.head borders.bottom c.in_default.ensures.fault)

pub returns-in_err-table-clause-looked : goal.returns-in_err-table-clause-looked
returns-in_err-table-clause-looked c =
    let borders = c.simple_borders-borders.ensures in
    search (arith, looks-lines (drop c.args.i (block_of c.args.view.now)) _ _ _ _ c.size-size.ensures (omega (arith, length-drop c.args.i (block_of c.args.view.now))) borders.head borders.bottom c.in_default.ensures.fault)

pub returns-clause-table : goal.returns-clause-table
returns-clause-table c =
    let B : Block = block_of c.args.view.now in
    let X : Block = drop c.args.i B in
    let T : Grid = rows_of (take (simple_size X) X) in
    let borders = c.simple_borders-borders.ensures in
    let size = table-size X _ _ _ _ c.size-size.ensures (omega (arith, length-drop c.args.i B)) borders.head borders.bottom in
    let taken : c.args.i + c.size-size.result - c.args.i ≡ simple_size X = omega (arith, size) in
    let lines : c.deref.result.now ≡ T = c.deref.ensures.value ∙ c.in_ok-lines.ensures.lines ∙ ap (λ n. take n (drop c.args.i (rows_of B))) taken ∙ rows-taken B c.args.i (simple_size X) in
    let unmarked : Bool = (first_parts X).unmarked in
    let fault : simple_fault X T ≡ lines_fault unmarked T = ap (λ o. option_or o (lines_fault unmarked T)) (ap (border_fault X) (sym borders.bottom) ∙ sym c.in_default.ensures.fault) in
    c.in_ok-table.ensures
    ∙ ap (λ (parts : Parts). simple_by parts.unmarked c.number-line.result c.args.i c.simple_borders-borders.result.head c.deref.result.now (lines_fault parts.unmarked c.deref.result.now)) c.parts.ensures.value
    ∙ ap₂ (λ n (h : Option ℕ). simple_by unmarked n c.args.i h c.deref.result.now (lines_fault unmarked c.deref.result.now)) c.number-line.ensures.value borders.head
    ∙ ap (λ (G : Grid). simple_by unmarked (first_number X) c.args.i (head_border X) G (lines_fault unmarked G)) lines ∙ sym (ap (simple_by unmarked (first_number X) c.args.i (head_border X) T) fault)

pub returns-clause-end : goal.returns-clause-end
returns-clause-end c = ap end_of (returns-clause-table c) ∙ simple_end (block_of c.args.view.now) c.args.i

pub returns-clause-looked : goal.returns-clause-looked
returns-clause-looked c =
    let borders = c.simple_borders-borders.ensures in
    search (arith, looks-lines (drop c.args.i (block_of c.args.view.now)) _ _ _ _ c.size-size.ensures (omega (arith, length-drop c.args.i (block_of c.args.view.now))) borders.head borders.bottom c.in_default.ensures.fault)
