use Rattle.std.proofs.Common.{◌≡◌, ◌∙◌, ◌<◌, length, IfSome, None, List, Option, Vec, Global, ap, ap₂, sym, subst, arith, ◌+◌, option_map, vec_items}
use Rattle.rst_markup_tables.specs.Places.{AreNumbered, Grid}
use Rattle.rst_markup_tables.specs.Drawn.{IsTiling, Tiles}
use Rattle.rst_markup_tables.specs.GridTable.{grid_fault, head_of, head_from, with_dashes, tiled_table}
use Rattle.rst_markup_tables.specs.declared.drawn.Rectangle.{Rectangle}
use Rattle.rst_markup_tables.proofs.BoundLemmas.{all_within}
use Rattle.rst_markup_tables.proofs.Numbered.{numbered-dashes}
use Rattle.rst_markup_tables.proofs.RowLemmas.{in_rows}
use Rattle.rst_markup_tables.proofs.TableLemmas.{with_tiling}
use Rattle.rst_markup_tables.proofs.table.grid_of.Goals as goal

pub invariant_of-tiling-clause-within : goal.invariant_of-tiling-clause-within
invariant_of-tiling-clause-within c =
    let tiles = subst (λ (o : Option (Vec Rectangle Global)). Tiles c.deref-3.result.now (option_map vec_items o)) c.in-Some-2.is c.in_ok-rectangles.ensures in
    let lines : c.deref-3.result.now ≡ c.deref-4.result.now = c.deref-3.ensures.value ∙ sym c.deref-4.ensures.value in
    all_within _ _ (subst (λ (X : Grid). IsTiling X c.deref-5.result.now) lines (subst (IsTiling c.deref-3.result.now) (sym c.deref-5.ensures.value) tiles)).drawn

pub invariant_of-tiling-clause-in_rows : goal.invariant_of-tiling-clause-in_rows
invariant_of-tiling-clause-in_rows c =
    let tiles = subst (λ (o : Option (Vec Rectangle Global)). Tiles c.deref-3.result.now (option_map vec_items o)) c.in-Some-2.is c.in_ok-rectangles.ensures in
    let lines : c.deref-3.result.now ≡ c.deref-4.result.now = c.deref-3.ensures.value ∙ sym c.deref-4.ensures.value in
    in_rows _ _ (subst (λ (X : Grid). IsTiling X c.deref-5.result.now) lines (subst (IsTiling c.deref-3.result.now) (sym c.deref-5.ensures.value) tiles)).drawn

pub invariant_of-tiling-clause-numbered : goal.invariant_of-tiling-clause-numbered
invariant_of-tiling-clause-numbered c =
    let inside = subst (λ (X : Grid). IfSome c.head_from-head.result (λ k. k < length X)) c.deref-2.ensures.value c.head_from-head.ensures.within in
    subst AreNumbered (sym (c.deref-4.ensures.value ∙ c.in_ok-put_dashes.ensures)) (numbered-dashes c.args.found.lines.items c.head_from-head.result inside c.requires.numbered)

pub returns : goal.returns
returns c =
    let T : Grid = c.args.found.lines.items in
    let G : Grid = c.put_dashes.new.lines.items in
    let none : grid_fault c.args.found.bottom T ≡ None = sym (ap (grid_fault c.args.found.bottom) c.deref.ensures.value) ∙ sym c.grid_fault.ensures ∙ c.in_default.is in
    let head : c.head_from-head.result ≡ head_of T = c.head_from-head.ensures.value ∙ ap (λ (X : Grid). head_from X 0) c.deref-2.ensures.value in
    let tiling : IsTiling G c.in-Some-2.rectangles.items = subst (λ (X : Grid). IsTiling X c.in-Some-2.rectangles.items) c.deref-3.ensures.value (subst (λ (o : Option (Vec Rectangle Global)). Tiles c.deref-3.result.now (option_map vec_items o)) c.in-Some-2.is c.in_ok-rectangles.ensures) in
    let table = c.in_ok-table.ensures ∙ ap₂ (λ (X : Grid) (rs : List Rectangle). tiled_table c.head_from-head.result X rs (c.args.first + c.len-size.result)) c.deref-4.ensures.value c.deref-5.ensures.value in
    with_tiling c.args.line c.args.first T G c.head_from-head.result c.in-Some-2.rectangles.items c.in_ok-table.table (grid_fault c.args.found.bottom T) none (c.in_ok-put_dashes.ensures ∙ ap (with_dashes T) head) head tiling
    (table ∙ ap (λ n. tiled_table c.head_from-head.result G c.in-Some-2.rectangles.items (c.args.first + n)) (omega arith))
